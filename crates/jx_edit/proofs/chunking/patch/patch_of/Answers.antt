use Rattle.std.proofs.Common.{◌++◌}
use Rattle.jx_edit.specs.inside.Replacements.{all_of}
use Rattle.jx_edit.proofs.Texts.{made_at}
use Rattle.jx_edit.proofs.chunking.patch.patch_of.Goals as goal

pub returns-clause-made : goal.returns-clause-made
returns-clause-made c =
    made_at c.args.chunks.now c.in_ok-chunks.chunks.items c.args.start c.args.end c.front_of-front.result.before c.front_of-front.result.offset c.back_of-back.result.before
    c.front_of-front.result.bytes.now (all_of c.args.replacement) (c.back_of-back.result.here.now ++ c.back_of-back.result.next.now) c.requires.order c.requires.within
    c.front_of-front.ensures c.back_of-back.ensures c.in_ok-chunks.ensures.bytes

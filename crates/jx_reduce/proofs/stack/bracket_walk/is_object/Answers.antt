use Rattle.std.proofs.Common.{◌∙◌, ◌%◌, arith}
use Rattle.jx_reduce.proofs.BlockWalk.{contained}
use Rattle.jx_reduce.proofs.KnownWords.{top_of_word}
use Rattle.jx_reduce.proofs.stack.bracket_walk.is_object.Goals as goal

pub returns : goal.returns
returns c = λ rest.
    let i = c.args.inner in
    top_of_word i.count i.bits rest c.requires.some ∙ contained (i.bits % 2) (omega arith)

use Rattle.std.proofs.Common.{ap, sym, ◌∙◌}
use Rattle.jx_edit.specs.inside.Chunks.{open_ended}
use Rattle.jx_edit.proofs.Links.{exchanged}
use Rattle.jx_edit.proofs.chunking.patch.exchange.Goals as goal

pub returns-then-last-chunks : goal.returns-then-last-chunks
returns-then-last-chunks c =
    exchanged c.args.chunks.now c.swap_with_slice.new.self c.args.made.items c.args.first c.args.last c.index-chunks-last.result c.unlink.new.self c.requires.order c.requires.within c.requires.same
    (c.swap_with_slice.ensures.after ∙ c.deref_mut.ensures.value) c.index-chunks-last.is (c.unlink.ensures ∙ ap open_ended (sym c.index-chunks-last.is))

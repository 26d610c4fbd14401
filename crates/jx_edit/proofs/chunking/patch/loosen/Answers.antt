use Rattle.std.proofs.Common.{ap, sym, ◌∙◌}
use Rattle.jx_edit.specs.inside.Chunks.{open_ended}
use Rattle.jx_edit.proofs.Links.{loosened_first}
use Rattle.jx_edit.proofs.chunking.patch.loosen.Goals as goal

pub returns : goal.returns
returns c = loosened_first c.args.chunks.now c.index-chunks-0.result c.unlink.new.self c.index-chunks-0.is (c.unlink.ensures ∙ ap open_ended (sym c.index-chunks-0.is))

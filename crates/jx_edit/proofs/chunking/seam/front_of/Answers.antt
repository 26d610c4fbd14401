use Rattle.std.proofs.Common.{refl}
use Rattle.jx_edit.proofs.Texts.{front_is}
use Rattle.jx_edit.proofs.chunking.seam.front_of.Goals as goal

pub returns : goal.returns
returns c =
    front_is c.args.chunks.now c.args.at c.seam_at-seam.result.before c.seam_at-seam.result.bytes c.seam_at-seam.result.here c.bytes_here-here.result.now _
    c.seam_at-seam.ensures c.bytes_here-here.ensures refl

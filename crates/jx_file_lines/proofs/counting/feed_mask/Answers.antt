use Rattle.std.proofs.Common.{◌∙◌, refl, arith}
use Rattle.std.proofs.lemmas.Simd.{zip2_splat}
use Rattle.jx_lex.proofs.Lanes.{masked, lanes_mask}
use Rattle.jx_file_lines.specs.Lines.{is_line_feed}
use Rattle.jx_file_lines.proofs.counting.feed_mask.Goals as goal

pub returns : goal.returns
returns c =
    let v = c.args.block in
    let long = c.fits-block.0 in
    masked (zip2_splat _ v 64 0x0a long) ∙ lanes_mask 64 (omega arith) _ is_line_feed v long c.fits-block.1 refl

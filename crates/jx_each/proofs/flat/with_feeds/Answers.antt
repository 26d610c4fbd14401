use Rattle.std.proofs.Common.{ℕ, eqb, w8, map, replicate, sym, ap, ◌∙◌}
use Rattle.std.specs.Simd.Lanes.{sel_l}
use Rattle.std.proofs.lemmas.Simd.{tops_compared, zip2_splat}
use Rattle.jx_each.specs.inside.Flat.{is_comma}
use Rattle.jx_each.proofs.Feeding.{sel_map}
use Rattle.jx_each.proofs.flat.with_feeds.Goals as goal

pub returns : goal.returns
returns c =
    let v = c.args.block in
    let long = c.fits-block.0 in
    ap (λ ms. sel_l ms (replicate 64 0x0a) v) (tops_compared w8 eqb v (replicate 64 0x2c) ∙ zip2_splat eqb v 64 0x2c long)
    ∙ ap (λ (n : ℕ). sel_l (map is_comma v) (replicate n 0x0a) v) (sym long)
    ∙ sel_map is_comma 0x0a v

use Rattle.std.proofs.Common.{refl, arith}
use Rattle.jx_each.proofs.Feeding.{flat_is}
use Rattle.jx_each.proofs.flat.commas_end.Goals as goal

pub returns-then-is_end : goal.returns-then-is_end
returns-then-is_end c =
    let p = c.if-not-is_plain.ensures in
    let e = c.if-is_end.ensures in
    flat_is c.args.block c.args.words c.args.begun c.commas_of-commas.result _ c.fits-block.0 c.commas_of-commas.ensures (p.whole refl) (p.commas refl) (p.none refl) (c.if-not-are_apart.ensures refl) (omega arith) (e.behind refl) (e.last refl)

use Rattle.std.proofs.Common.{◌≡◌, ◌++◌, take}
use Rattle.std.specs.List.{flat_map, AllByRecursion}
use Rattle.jx_portion.proofs.spelt.put_several.Given as goal

abbrev pub invariant-loop-item : goal.invariant-loop-item
invariant-loop-item g l = (l.out.items ≡ l.initial.out.items ++ flat_map g.T.Spelt.spelling (take l.item-index l.items)) × AllByRecursion g.T.Spelt.fits (take l.item-index l.items)

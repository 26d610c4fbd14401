use Rattle.std.proofs.Common.{◌≡◌, map, take}
use Rattle.jx_index.specs.inside.NameFronts.{front_in}
use Rattle.jx_index.proofs.member_order.list_fronts.Given as goal

-- the fronts so far
abbrev pub invariant-loop-one : goal.invariant-loop-one
invariant-loop-one l = l.fronts.items ≡ map front_in (take l.one-index l.list)

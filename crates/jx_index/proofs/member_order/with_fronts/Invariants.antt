use Rattle.std.proofs.Common.{◌≡◌, map, take}
use Rattle.jx_index.specs.inside.NameFronts.{with_front}
use Rattle.jx_index.proofs.member_order.with_fronts.Given as goal

-- the members so far
abbrev pub invariant-loop-node : goal.invariant-loop-node
invariant-loop-node l = l.list.items ≡ map (with_front l.text l.rows) (take l.node-index l.members)

use Rattle.std.proofs.Common.{◌≡◌, map, take}
use Rattle.jx_index.specs.inside.NameFronts.{node_of}
use Rattle.jx_index.proofs.member_order.list_members.Given as goal

-- the members so far
abbrev pub invariant-loop-one : goal.invariant-loop-one
invariant-loop-one l = l.members.items ≡ map node_of (take l.one-index l.list)

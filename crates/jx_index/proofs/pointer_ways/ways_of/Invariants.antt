-- The ways of the pointers in front.
use Rattle.std.proofs.Common.{map, take}
use Rattle.std.specs.List.{AllZip}
use Rattle.jx_index.specs.inside.PointerWays.{IsWayOf, nodes_of}
use Rattle.jx_index.proofs.pointer_ways.ways_of.Given as goal

abbrev pub invariant-loop-pointer : goal.invariant-loop-pointer
invariant-loop-pointer l = AllZip (IsWayOf l.edges) (take l.pointer-index l.pointers) (map nodes_of l.ways.items)

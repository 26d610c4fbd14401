-- The answers to the pointers in front.
use Rattle.std.proofs.Common.{List, map, take}
use Rattle.std.specs.List.{AllZip}
use Rattle.jx_index.specs.declared.trie.Edge.{Edge}
use Rattle.jx_index.specs.inside.PointerWays.{IsWayOf, nodes_of}
use Rattle.jx_index.specs.inside.Seeking.{IsReadOf}
use Rattle.jx_index.proofs.read_met.read_ways.Given as goal

abbrev pub invariant-loop-place : goal.invariant-loop-place
invariant-loop-place l = (edges : List Edge) → AllZip (IsWayOf edges) l.pointers (map nodes_of l.ways) → AllZip (IsReadOf edges l.met) (take l.place l.pointers) l.found.items

use Rattle.std.proofs.Common.{ℕ, List, length}
use Rattle.jx_index.specs.Pointers.{HasSlash, tokens}
use Rattle.jx_index.specs.inside.Trie.{IsTrie, IsWay}
use Rattle.jx_index.proofs.Climbs.{IsLeft}
use Rattle.jx_index.proofs.trie_nodes.way_of.Given as goal

abbrev pub invariant-loop-rest : goal.invariant-loop-rest
invariant-loop-rest l = record {
  slash : HasSlash l.rest;
  left : IsTrie l.edges → (path : List ℕ) → IsWay l.edges 0 (tokens l.initial.rest) path → IsLeft l.edges l.node (tokens l.rest) l.way.items path;
}

abbrev pub decreases-loop-rest : goal.decreases-loop-rest
decreases-loop-rest l = length l.rest

use Rattle.std.proofs.Common.{◌+◌, ◌≤◌, ℕ, List, drop}
use Rattle.jx_index.specs.inside.Growing.{total, IsLevel}
use Rattle.jx_index.proofs.Levels.{Growing}
use Rattle.jx_index.proofs.trie_build.add_level.Given as goal

abbrev pub invariant-loop-part : goal.invariant-loop-part
invariant-loop-part l = record {
  level : (pointers : List (List ℕ)) → IsLevel pointers l.initial.edges.items l.parts → Growing pointers l.initial.edges.items l.edges.items l.parts l.part-index l.later.items;
  fewer : total l.later.items + total (drop l.part-index l.parts) + l.part-index ≤ total l.parts;
}

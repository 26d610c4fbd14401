use Rattle.std.proofs.Common.{◌≡◌, ◌<◌, ℕ, Some}
use Rattle.std.specs.Prelude.{slice_get}
use Rattle.jx_index.specs.declared.trie.Edge.{Edge}
use Rattle.jx_file_query.proofs.walk_passing.next_place.Given as goal

abbrev pub invariant-edges : goal.invariant-edges
invariant-edges l = (i : ℕ) (e : Edge) → i < l.at → slice_get l.edges i ≡ Some e → e.parent ≡ l.node → e.place < l.next → e.place < l.count

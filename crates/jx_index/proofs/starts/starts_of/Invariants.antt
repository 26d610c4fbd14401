use Rattle.std.proofs.Common.{◌≡◌, ◌<◌, ℕ, length}
use Rattle.std.specs.Prelude.{slice_get, Some}
use Rattle.jx_index.specs.declared.trie.Edge.{Edge}
use Rattle.jx_index.proofs.starts.starts_of.Given as goal

abbrev pub invariant-loop-at : goal.invariant-loop-at
invariant-loop-at l = (i : ℕ) (e : Edge) → i < l.at → slice_get l.edges i ≡ Some e → e.parent < length l.starts.items

use Rattle.std.proofs.Common.{◌≡◌, ◌<◌, ℕ, Some}
use Rattle.std.specs.Prelude.{slice_get}
use Rattle.jx_index.specs.declared.trie.Edge.{Edge}
use Rattle.jx_file_query.specs.inside.Members.{WantsNone}
use Rattle.jx_file_query.proofs.members.any_wants.Given as goal

abbrev pub invariant-edges : goal.invariant-edges
invariant-edges l = (i : ℕ) (e : Edge) → i < l.at → slice_get l.edges i ≡ Some e → e.parent ≡ l.node → WantsNone l.names i l.chunk

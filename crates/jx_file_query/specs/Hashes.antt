-- The hashes of the names that a trie's edges ask for.
use Rattle.std.specs.Prelude.{◌≡◌, ℕ, List, slice_get, Some}
use Rattle.jx_index.specs.declared.trie.Edge.{Edge}
use Rattle.jx_index.specs.inside.Trie.{edge_units}
use Rattle.jx_file_index.specs.NameHash.{name_hash}

-- each hash is that of the edge at its place
abbrev pub HaveHashes : List Edge → List ℕ → Type 0
HaveHashes edges hashes = (i : ℕ) (e : Edge) (hash : ℕ) → slice_get edges i ≡ Some e → slice_get hashes i ≡ Some hash → hash ≡ name_hash (edge_units e)

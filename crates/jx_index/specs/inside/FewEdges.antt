-- Where the edges of a node stand, so that each of them is tried.
use Rattle.std.specs.Prelude.{◌≡◌, ℕ, ◌<◌, ◌≤◌, List, Bool, false, Option, None, Some, slice_get}
use Rattle.jx_index.specs.declared.trie.Edge.{Edge}
use Rattle.jx_index.specs.inside.Trie.{leads_to_units}

-- there is an edge, and it leads on from a node
abbrev pub is_led : Option Edge → ℕ → List ℕ → Bool
is_led None node units = false
is_led (Some e) node units = leads_to_units node units e

-- each edge from a node has this number or a greater one
abbrev pub BeginsAt : List Edge → ℕ → ℕ → Type 0
BeginsAt edges node at = (i : ℕ) (e : Edge) → slice_get edges i ≡ Some e → e.parent ≡ node → at ≤ i

-- each edge from a node has a number below this
abbrev pub EndsAt : List Edge → ℕ → ℕ → Type 0
EndsAt edges node at = (i : ℕ) (e : Edge) → slice_get edges i ≡ Some e → e.parent ≡ node → i < at

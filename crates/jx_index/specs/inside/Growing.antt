-- How the trie of pointers grows, level by level.
use Rattle.std.specs.Prelude.{◌≡◌, ℕ, suc, ◌-◌, ◌<◌, ◌≤◌, ◌⊎◌, List, [], ◌∷◌, ◌++◌, All, Bool, false, Option, None, Some, cond, length, slice_get}
use Rattle.std.specs.List.{sum_by, Contains}
use Rattle.std.specs.Ordering.{nat_cmp, is_eq}
use Rattle.std.specs.Cmp.Lexicographic.{slice_cmp}
use Rattle.jx_index.specs.Pointers.{tokens, HasSlash}
use Rattle.jx_index.specs.declared.trie.Edge.{Edge}
use Rattle.jx_index.specs.declared.trie_build.Part.{Part}
use Rattle.jx_index.specs.inside.Trie.{edge_key, edge_units, is_before, place_of, HasWay, IsTrie, IsWay}

abbrev pub part_before : Part → Part → Bool
part_before p q = is_before p.edge q.edge

-- how many bytes are left, and one for each part
abbrev pub weight : Part → ℕ
weight p = suc (length p.rest.now)

abbrev pub total : List Part → ℕ
total parts = sum_by weight parts

-- a pointer's first token from a node on, and the others
pub record IsPartFrom (node : ℕ) (rest : List ℕ) (p : Part) : Type 0 where
  pub parent : p.edge.parent ≡ node
  pub placed : p.edge.place ≡ place_of (edge_units p.edge)
  pub tokens_are : tokens rest ≡ edge_units p.edge ∷ tokens p.rest.now
  pub slash : HasSlash p.rest.now
  pub shorter : length p.rest.now < length rest

-- ---- one edge

abbrev pub is_same : Option Edge → Edge → Bool
is_same None e = false
is_same (Some x) e = is_eq (slice_cmp nat_cmp (edge_key x) (edge_key e))

-- unless it is the last one
abbrev pub added : List Edge → Edge → List Edge
added edges e = cond (is_same (slice_get edges (length edges - 1)) e) edges (edges ++ e ∷ [])

-- ---- one level

-- the edges have all tokens of a pointer, whatever is added to them
abbrev pub IsSure : List Edge → List ℕ → Type 0
IsSure edges pointer = (later : List Edge) → HasWay (edges ++ later) pointer

-- or have them once a part's are there
abbrev pub GoesOn : List Edge → Part → List ℕ → Type 0
GoesOn edges p pointer = (later : List Edge) (path : List ℕ) → IsWay (edges ++ later) p.edge.parent (edge_units p.edge ∷ tokens p.rest.now) path → HasWay (edges ++ later) pointer

pub record IsPartly (edges : List Edge) (parts : List Part) (pointer : List ℕ) : Type 0 where
  pub part : Part
  pub among : Contains parts part
  pub goes_on : GoesOn edges part pointer

abbrev pub IsCovered : List Edge → List Part → List ℕ → Type 0
IsCovered edges parts pointer = IsSure edges pointer ⊎ IsPartly edges parts pointer

-- a part's edge is after all of them
pub record IsNext (edges : List Edge) (p : Part) : Type 0 where
  pub known : p.edge.parent ≤ length edges
  pub placed : p.edge.place ≡ place_of (edge_units p.edge)
  pub slash : HasSlash p.rest.now
  pub above : (i : ℕ) (e : Edge) → slice_get edges i ≡ Some e → e.parent < p.edge.parent

pub record IsLevel (pointers : List (List ℕ)) (edges : List Edge) (parts : List Part) : Type 0 where
  pub trie : IsTrie edges
  pub nexts : All (IsNext edges) parts
  pub covered : All (IsCovered edges parts) pointers

-- JSON texts (RFC 8259, section 2), within a depth of nesting (section 9), and what begins one.
use Rattle.std.specs.Prelude.{ℕ, ◌≤◌, List, [], ◌++◌, drop, slice_range}
use Rattle.jx_run.specs.Tree.{Tree, depth}
use Rattle.jx_run.specs.Grammar.{Blanks, Value}

-- a value with this tree stands in the text from i to j (section 3)
abbrev pub Reads : List ℕ → ℕ → ℕ → Tree → Type 0
Reads text i j tree = Value i (drop i text) j (drop j text) tree

-- ws value ws over the whole list, which stands from an offset on (section 2)
pub data Document : ℕ → List ℕ → Tree → Type 0 where
  document : {i j k l : ℕ} {t0 t1 t2 : List ℕ} {tree : Tree}
      → Blanks i t0 j t1 → Value j t1 k t2 tree → Blanks k t2 l [] → Document i t0 tree

-- the bytes, which stand from an offset on, are a text with this tree, nested no deeper than the limit (section 9)
pub record IsDocument (start : ℕ) (bytes : List ℕ) (limit : ℕ) (tree : Tree) : Type 0 where
  pub reads : Document start bytes tree
  pub within : depth tree ≤ limit

-- the bytes from a up to b are such a text
abbrev pub IsText : List ℕ → ℕ → ℕ → ℕ → Tree → Type 0
IsText text a b limit tree = IsDocument a (slice_range text a b) limit tree

-- some bytes after these, perhaps none, make a text within the depth
pub record Begins (bytes : List ℕ) (limit : ℕ) : Type 0 where
  pub more : List ℕ
  pub tree : Tree
  pub text : IsDocument 0 (bytes ++ more) limit tree

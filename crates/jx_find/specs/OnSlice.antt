-- The tokens of a slice that are looked for.
use Rattle.std.specs.Prelude.{◌≡◌, ℕ, ◌<◌, List, ◌++◌, Option, Some, drop, length, true}
use Rattle.jx_lex.specs.declared.alphabet.mark.Mark.{Mark}
use Rattle.jx_run.specs.Telling.{moved_ends, moved_marks}
use Rattle.jx_index.specs.declared.seeker.Seeker.{Seeker}
use Rattle.jx_index.specs.declared.trie.Edge.{Edge}
use Rattle.jx_index.specs.inside.Found.{finding}
use Rattle.jx_index.specs.inside.InOrder.{IsToken}
use Rattle.jx_index.specs.inside.Seeking.{IsReady}
use Rattle.jx_index.specs.inside.Trie.{IsTrie, is_name_next}
use Rattle.jx_find.specs.Held.{Comes}

-- the bytes, token starts and ends that a state may be of
abbrev pub Holds : Type 1
Holds = List ℕ → List Mark → List ℕ → Type 0

-- of a name that has begun before the slice the bytes before the slice are kept
pub record IsSought (before slice : List ℕ) (edges : List Edge) (marks : List Mark) (ends : List ℕ) (k : Seeker) (begun : Option Mark) (name : List ℕ) : Type 0 where
  pub trie : IsTrie edges
  pub ready : IsReady edges k
  pub comes : (future : List ℕ) → Comes ((before ++ slice) ++ future) edges marks ends (finding k.state) begun
  pub token : IsToken begun
  pub name_is : (m : Mark) → begun ≡ Some m → is_name_next m.kind (finding k.state) ≡ true → m.at < length before → name ≡ drop m.at before

-- after any state at the slice's start, these token starts and ends of the slice were sought
pub record HasSought (held : Holds) (slice : List ℕ) (edges : List Edge) (marks : List Mark) (ends : List ℕ)
    (own : List ℕ) (base : ℕ) (own_edges : List Edge) (k : Seeker) (begun : Option Mark) (name : List ℕ) : Type 0 where
  pub slice_is : own ≡ slice
  pub edges_are : own_edges ≡ edges
  pub base_is : (before : List ℕ) (ms : List Mark) (es : List ℕ) → held before ms es → base ≡ length before
  pub sought : (before : List ℕ) (ms : List Mark) (es : List ℕ) → held before ms es
      → IsSought before slice edges (ms ++ moved_marks base marks) (es ++ moved_ends base ends) k begun name

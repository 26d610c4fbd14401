-- The names that are kept of a slice.
use Rattle.std.specs.Prelude.{◌≡◌, ℕ, ◌<◌, List, ◌++◌, Option, Some, drop, length, true}
use Rattle.jx_lex.specs.declared.alphabet.mark.Mark.{Mark}
use Rattle.jx_run.specs.Telling.{moved_ends, moved_marks}
use Rattle.jx_index.specs.inside.Building.{Building}
use Rattle.jx_index.specs.inside.InOrder.{Comes, IsToken}
use Rattle.jx_names.specs.inside.KeptNames.{Kept, is_name_next, Stands}

-- the bytes, token starts and ends that a state may be of
abbrev pub Holds : Type 1
Holds = List ℕ → List Mark → List ℕ → Type 0

-- of a name that has begun before the slice the bytes before the slice are kept
pub record IsToldOf (before slice : List ℕ) (marks : List Mark) (ends : List ℕ) (names : Kept) (begun : Option Mark) (name : List ℕ) : Type 0 where
  pub building : Building
  pub comes : Comes marks ends building begun
  pub stands : (future : List ℕ) → Stands ((before ++ slice) ++ future) building names
  pub token : IsToken begun
  pub name_is : (m : Mark) → begun ≡ Some m → is_name_next m.kind names ≡ true → m.at < length before → name ≡ drop m.at before

-- after any state at the slice's start, these token starts and ends of the slice were taken
pub record HasTold (held : Holds) (slice : List ℕ) (marks : List Mark) (ends : List ℕ) (own : List ℕ) (base : ℕ) (names : Kept) (begun : Option Mark) (name : List ℕ) : Type 0 where
  pub slice_is : own ≡ slice
  pub base_is : (before : List ℕ) (ms : List Mark) (es : List ℕ) → held before ms es → base ≡ length before
  pub told : (before : List ℕ) (ms : List Mark) (es : List ℕ) → held before ms es → IsToldOf before slice (ms ++ moved_marks base marks) (es ++ moved_ends base ends) names begun name

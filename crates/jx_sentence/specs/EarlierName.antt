-- The name that an object has had before.
use Rattle.std.specs.Prelude.{◌≡◌, ℕ, ◌<◌, List, Option, None, Some, slice_get}
use Rattle.jx_summary.specs.declared.span.Span.{Span}
use Rattle.jx_index.specs.declared.row.Row.{Row}
use Rattle.jx_index.specs.Units.{units_at}

-- a name begins there
abbrev pub BeginsAt : Option Span → ℕ → Type 0
BeginsAt None at = ⊥
BeginsAt (Some name) at = name.start ≡ at

-- two names stand for the same UTF-16 code units
abbrev pub HaveSameUnits : List ℕ → Option Span → Option Span → Type 0
HaveSameUnits text (Some one) (Some other) = units_at text one ≡ units_at text other
HaveSameUnits text _ _ = ⊥

-- of the rows of a text, the name at an offset is that of a member, and a row before it has this name, the same units and the same object
pub record IsEarlierName (text : List ℕ) (rows : List Row) (at : ℕ) (earlier : Span) : Type 0 where
  pub first : ℕ
  pub second : ℕ
  pub before : first < second
  pub one : Row
  pub other : Row
  pub is_first : slice_get rows first ≡ Some one
  pub is_second : slice_get rows second ≡ Some other
  pub name : one.name ≡ Some earlier
  pub begins : BeginsAt other.name at
  pub one_object : one.parent ≡ other.parent
  pub same : HaveSameUnits text one.name other.name

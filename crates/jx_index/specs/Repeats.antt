-- Names that an object repeats.
use Rattle.std.specs.Prelude.{◌≡◌, ℕ, ◌≤◌, ◌⊎◌, List, [], ◌∷◌, Bool, Option, None, Some, drop, filter}
use Rattle.std.specs.Ordering.{nat_cmp, is_eq}
use Rattle.std.specs.Cmp.Lexicographic.{slice_cmp}
use Rattle.jx_summary.specs.declared.span.Span.{Span}
use Rattle.jx_index.specs.declared.row.Row.{Row}
use Rattle.jx_index.specs.Nodes.{IsObjectAt, name_at, child_numbers}
use Rattle.jx_index.specs.Names.{name_units}

module _ {A : Type 0} where
  abbrev pub IsAmong : A → List A → Type 0
  IsAmong x [] = ⊥
  IsAmong x (y ∷ ys) = (y ≡ x) ⊎ IsAmong x ys

  abbrev pub has_units : (A → List ℕ) → List ℕ → A → Bool
  has_units units_of units x = is_eq (slice_cmp nat_cmp (units_of x) units)

  -- at this offset begins a name that is not the first, in a list of names, among those of its units
  pub record IsRepeated (units_of : A → List ℕ) (start_of : A → Option ℕ) (names : List A) (at : ℕ) : Type 0 where
    pub units : List ℕ
    pub name : A
    pub behind : IsAmong name (drop 1 (filter (has_units units_of units) names))
    pub starts : start_of name ≡ Some at

-- where a name begins
abbrev pub start_in : Option Span → Option ℕ
start_in None = None
start_in (Some name) = Some name.start

-- at this offset begins the name of a member that is not the first among those of its units
abbrev pub IsRepeatIn : List ℕ → List Row → List ℕ → ℕ → Type 0
IsRepeatIn text rows members at = IsRepeated (name_units text rows) (λ node. start_in (name_at rows node)) members at

-- at this offset begins a name that an object has had before
pub record IsRepeat (text : List ℕ) (rows : List Row) (at : ℕ) : Type 0 where
  pub object : ℕ
  pub is_object : IsObjectAt rows object
  pub repeats : IsRepeatIn text rows (child_numbers rows object) at

-- the least number of which something holds, or none where it holds of no number
abbrev pub IsLeast : (ℕ → Type 0) → Option ℕ → Type 0
IsLeast P None = (n : ℕ) → P n → ⊥
IsLeast P (Some n) = P n × ((k : ℕ) → P k → n ≤ k)

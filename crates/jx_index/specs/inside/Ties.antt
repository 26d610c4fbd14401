-- Names that an object repeats, while they are looked for: neighbours in an order by their units.
use Rattle.std.specs.Prelude.{◌≡◌, ℕ, ◌≤◌, ◌⊎◌, List, [], ◌∷◌, Option, None, Some, min, if◌then◌else◌}
use Rattle.jx_index.specs.declared.row.Row.{Row}
use Rattle.jx_index.specs.Names.{name_units}
use Rattle.jx_index.specs.Nodes.{IsObjectAt, name_at, child_numbers}
use Rattle.jx_index.specs.Repeats.{has_units, start_in, IsRepeatIn}

abbrev pub earlier_of : Option ℕ → Option ℕ → Option ℕ
earlier_of None other = other
earlier_of (Some n) None = Some n
earlier_of (Some n) (Some k) = Some (min n k)

module _ {A : Type 0} (units_of : A → List ℕ) (start_of : A → Option ℕ) where
  -- where the second name begins, if it has the units of the first
  abbrev pub tie_start : A → A → Option ℕ
  tie_start a b = if has_units units_of (units_of b) a then start_of b else None

  -- at this offset begins a name that has the units of the one before it in the list
  abbrev pub IsTieBehind : A → List A → ℕ → Type 0
  IsTieBehind a [] at = ⊥
  IsTieBehind a (b ∷ names) at = (tie_start a b ≡ Some at) ⊎ IsTieBehind b names at

  abbrev pub IsTie : List A → ℕ → Type 0
  IsTie [] at = ⊥
  IsTie (a ∷ names) at = IsTieBehind a names at

-- of members by their rows
abbrev pub row_tie : List ℕ → List Row → ℕ → ℕ → Option ℕ
row_tie text rows a b = tie_start (name_units text rows) (λ node. start_in (name_at rows node)) a b

abbrev pub IsRowTie : List ℕ → List Row → List ℕ → ℕ → Type 0
IsRowTie text rows names at = IsTie (name_units text rows) (λ node. start_in (name_at rows node)) names at

-- in an object that has this number
abbrev pub IsRepeatOf : List ℕ → List Row → ℕ → ℕ → Type 0
IsRepeatOf text rows object at = IsObjectAt rows object × IsRepeatIn text rows (child_numbers rows object) at

-- in one that has this number or a greater one
pub record IsRepeatFrom (text : List ℕ) (rows : List Row) (low at : ℕ) : Type 0 where
  pub object : ℕ
  pub from : low ≤ object
  pub repeats : IsRepeatOf text rows object at

-- The first units of a name in a number.
use Rattle.std.specs.Prelude.{ℕ, zero, suc, ◌+◌, ◌*◌, List, [], ◌∷◌, Bool, nat_lt, if◌then◌else◌}
use Rattle.std.specs.List.Sorted.{IsPermutation, IsSortedBy, IsStableBy}
use Rattle.std.specs.Ordering.{nat_cmp, is_lt}
use Rattle.std.specs.Cmp.Lexicographic.{slice_cmp}
use Rattle.jx_index.specs.declared.member_order.Fronted.{Fronted}
use Rattle.jx_index.specs.declared.row.Row.{Row}
use Rattle.jx_index.specs.Names.{name_units}

-- the first unit as far as a byte holds it, and what counts after it: nothing, where the byte does not hold it
abbrev pub digit : List ℕ → ℕ
digit [] = 0
digit (unit ∷ units) = if nat_lt unit 255 then unit else 255

abbrev pub behind_digit : List ℕ → List ℕ
behind_digit [] = []
behind_digit (unit ∷ units) = if nat_lt unit 255 then units else []

-- a number with so many more digits
unfoldable pub front_from : ℕ → ℕ → List ℕ → ℕ
front_from front zero units = front
front_from front (suc n) units = front_from (front * 256 + digit units) n (behind_digit units)

abbrev pub front_of : List ℕ → ℕ
front_of units = front_from 0 8 units

abbrev pub front_at : List ℕ → List Row → ℕ → ℕ
front_at text rows node = front_of (name_units text rows node)

abbrev pub with_front : List ℕ → List Row → ℕ → Fronted
with_front text rows node = record { front = front_at text rows node; node = node }

abbrev pub front_in : Fronted → ℕ
front_in m = m.front

abbrev pub node_of : Fronted → ℕ
node_of m = m.node

-- the front decides, and where two are equal the units do
abbrev pub fronted_units : List ℕ → List Row → Fronted → List ℕ
fronted_units text rows m = m.front ∷ name_units text rows m.node

abbrev pub is_in_front : List ℕ → List Row → Fronted → Fronted → Bool
is_in_front text rows a b = is_lt (slice_cmp nat_cmp (fronted_units text rows a) (fronted_units text rows b))

-- the same members in that order, equal ones by place
pub record IsInFrontOrder (text : List ℕ) (rows : List Row) (members sorted : List Fronted) : Type 0 where
  pub each_once : IsPermutation members sorted
  pub rising : IsSortedBy (is_in_front text rows) sorted
  pub equal_by_place : IsStableBy (is_in_front text rows) members sorted

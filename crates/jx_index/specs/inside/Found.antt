-- The state of a finder.
use Rattle.std.specs.Prelude.{◌<◌, ◌-◌, ◌^◌, ℕ, List, [], ◌∷◌, map, reverse}
use Rattle.jx_index.specs.declared.finder.Cursor.{Cursor}
use Rattle.jx_index.specs.declared.finder.State.{State}
use Rattle.jx_index.specs.declared.wanted.Wanted.{Wanted}
use Rattle.jx_index.specs.declared.units.Spelling.TheVariants.{InToken}
use Rattle.jx_index.specs.Units.{chars_units}
use Rattle.jx_index.specs.inside.Finding.{Finding}

abbrev pub finding : State → Finding
finding s = record { met = s.met.items; opened = reverse s.opened.items; skipped = s.skipped; name = s.name }

abbrev pub units_of : Wanted → List ℕ
units_of w = chars_units InToken 0 w.name.now

abbrev pub tokens_of : List Wanted → List (List ℕ)
tokens_of wanted = map units_of wanted

-- one child more can be counted
abbrev pub HasRoom : List Cursor → Type 0
HasRoom [] = Unit {0}
HasRoom (top ∷ outer) = top.count < 2 ^ 64 - 1

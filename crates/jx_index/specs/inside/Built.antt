-- The building that a builder holds.
use Rattle.std.specs.Prelude.{ℕ, ◌≤◌, List, [], ◌∷◌, length, reverse}
use Rattle.jx_index.specs.declared.builder.Opened.{Opened}
use Rattle.jx_index.specs.declared.builder.Builder.{Builder}
use Rattle.jx_index.specs.inside.Building.{Building}

abbrev pub built : Builder → Building
built b = record { rows = b.rows.items; after = b.after.items; opened = reverse b.opened.items; name = b.name }

-- no container has more children than there are rows
abbrev pub AllWithin : ℕ → List Opened → Type 0
AllWithin n [] = Unit {0}
AllWithin n (top ∷ outer) = (top.count ≤ n) × AllWithin n outer

abbrev pub Fits : Building → Type 0
Fits b = AllWithin (length b.rows) b.opened

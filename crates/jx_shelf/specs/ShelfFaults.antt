-- The index that a refused publication hands back.
use Rattle.std.specs.Prelude.{◌≡◌, Option, IsSome}
use Rattle.jx_index.specs.Indexed.{IndexedValue}
use Rattle.jx_shelf.specs.declared.shelf_fault.ShelfFault.{ShelfFault}
use Rattle.jx_shelf.specs.declared.shelf_fault.ShelfFault.TheVariants.{Taken, Memory}

-- the index itself; where the shelf is taken the note then knows an index, and when out of memory it knows what it knew
abbrev pub Refuses : IndexedValue → Option IndexedValue → Option IndexedValue → ShelfFault → Type 0
Refuses index old known (Taken back) = (back ≡ index) × IsSome known
Refuses index old known (Memory back) = (back ≡ index) × (known ≡ old)

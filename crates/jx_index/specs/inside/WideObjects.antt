-- The fronts that are kept of the names of objects with many members.
use Rattle.std.specs.Prelude.{◌≡◌, ℕ, ◌<◌, List, ◌++◌, All, map, Some, slice_get}
use Rattle.jx_index.specs.declared.child_lists.WideObject.{WideObject}
use Rattle.jx_index.specs.declared.row.Row.{Row}
use Rattle.jx_index.specs.ChildLists.{child_list}
use Rattle.jx_index.specs.inside.NameFronts.{front_at}

-- the fronts of the names of these members
abbrev pub AreFronts : List ℕ → List Row → List ℕ → List ℕ → Type 0
AreFronts text rows members fronts = fronts ≡ map (front_at text rows) members

-- those of the members that were added to a list
abbrev pub AreFrontsBehind : List ℕ → List Row → List ℕ → List ℕ → List ℕ → Type 0
AreFrontsBehind text rows before now fronts = (members : List ℕ) → now ≡ before ++ members → AreFronts text rows members fronts

-- the record that is kept of an object is added, if there is one
pub record IsWidened (text : List ℕ) (rows : List Row) (object : ℕ) (members : List ℕ) (before now : List WideObject) : Type 0 where
  pub added : List WideObject
  pub is : now ≡ before ++ added
  pub fronts_are : All (λ w. (w.object ≡ object) × AreFronts text rows members w.fronts.items) added

-- the fronts of an object whose row has a number below one, in the order of the names
pub record IsWide (text : List ℕ) (rows : List Row) (starts children : List ℕ) (n : ℕ) (w : WideObject) : Type 0 where
  pub below : w.object < n
  pub fronts_are : AreFronts text rows (child_list starts children w.object) w.fronts.items

-- the record that is kept of an object stands among these
pub record AreFrontsThere (wide : List WideObject) (object : ℕ) (fronts : List ℕ) : Type 0 where
  pub place : ℕ
  pub kept : WideObject
  pub there : slice_get wide place ≡ Some kept
  pub object_is : kept.object ≡ object
  pub fronts_are : kept.fronts.items ≡ fronts

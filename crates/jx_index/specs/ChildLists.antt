-- The children of all containers in one list, container after container.
use Rattle.std.specs.Prelude.{◌≡◌, ℕ, ◌+◌, ◌<◌, ◌≤◌, List, ◌++◌, length, slice_index, slice_range}
use Rattle.jx_index.specs.declared.row.Row.{Row}
use Rattle.jx_index.specs.Nodes.{IsArrayAt, IsObjectAt}
use Rattle.jx_index.specs.Names.{IsInNameOrder}
use Rattle.jx_index.specs.Walk.{walk_children}

-- the children of one row, from its own start up to that of the next row
abbrev pub child_list : List ℕ → List ℕ → ℕ → List ℕ
child_list starts children node = slice_range children (slice_index starts node) (slice_index starts (node + 1))

-- the elements of an array by place, the members of an object by rising names
pub record HasChildList (text : List ℕ) (rows : List Row) (after starts children : List ℕ) (node : ℕ) : Type 0 where
  pub ordered : slice_index starts node ≤ slice_index starts (node + 1)
  pub within : slice_index starts (node + 1) ≤ length children
  pub by_name : IsObjectAt rows node → IsInNameOrder text rows (walk_children after node) (child_list starts children node)
  pub by_place : IsArrayAt rows node → child_list starts children node ≡ walk_children after node

-- below a number
abbrev pub HaveChildLists : List ℕ → List Row → List ℕ → List ℕ → List ℕ → ℕ → Type 0
HaveChildLists text rows after starts children n = (k : ℕ) → k < n → HasChildList text rows after starts children k

-- the children of a row are added to a list
pub record IsAdded (text : List ℕ) (rows : List Row) (after : List ℕ) (node : ℕ) (before now : List ℕ) : Type 0 where
  pub list : List ℕ
  pub is : now ≡ before ++ list
  pub by_name : IsObjectAt rows node → IsInNameOrder text rows (walk_children after node) list
  pub by_place : IsArrayAt rows node → list ≡ walk_children after node

-- The nodes of a message, by the pointers that lead to them.
use Rattle.std.specs.Prelude.{◌≡◌, ◌&&◌, nat_le, ℕ, List, Bool, Option, None, Some, slice_get, slice_range}
use Rattle.std.specs.List.{list_all}
use Rattle.std.specs.Result.{result_ok}
use Rattle.jx_index.specs.Leads.{leads}
use Rattle.jx_index.specs.Pointers.{tokens}
use Rattle.jx_index.specs.declared.row.Row.{Row}
use Rattle.jx_run.specs.Tree.{Tree}
use Rattle.jx_wire.specs.Values.{IsBody, ValueIn}

-- in each tree of the body the pointer leads to this node, or nowhere
abbrev pub IsAt : List ℕ → List ℕ → Option ℕ → Type 0
IsAt body pointer node = (tree : Tree) → IsBody body tree → result_ok (leads body tree (tokens pointer)) ≡ node

-- the row of a node
abbrev pub row_in : List Row → Option ℕ → Option Row
row_in rows None = None
row_in rows (Some node) = slice_get rows node

-- the value of a row
abbrev pub row_value : List ℕ → Option Row → Option ValueIn
row_value text None = None
row_value text (Some row) = Some (record { kind = row.kind; bytes = slice_range text row.span.start row.span.end })

-- from A to z: neither a digit nor a hyphen, a slash or a tilde
abbrev pub is_letter : ℕ → Bool
is_letter byte = nat_le 0x41 byte && nat_le byte 0x7a

-- a name of such letters alone
abbrev pub is_word : List ℕ → Bool
is_word name = list_all is_letter name

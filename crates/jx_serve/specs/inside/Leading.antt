-- A value that a look-up found.
use Rattle.std.specs.Prelude.{◌≡◌, ℕ, List, Some, Result, Ok, slice_get}
use Rattle.jx_index.specs.declared.find_fault.FindFault.{FindFault}
use Rattle.jx_index.specs.declared.finder.Found.{Found}

-- the first of the answers is a value that starts at an offset
pub record StartsAt (offset : ℕ) (answers : List (Result Found FindFault)) : Type 0 where
  pub value : Found
  pub is_first : slice_get answers 0 ≡ Some (Ok value)
  pub starts : value.span.start ≡ offset

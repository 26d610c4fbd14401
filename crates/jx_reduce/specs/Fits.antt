-- Forms that a depth allows.
use Rattle.std.specs.Prelude.{◌≡◌, ℕ, ◌+◌, ◌<◌, ◌≤◌, None, Some, length, false}
use Rattle.jx_reduce.specs.Form.{Form, levels_of}
use Rattle.jx_reduce.specs.Join.{all_faulted}
use Rattle.jx_reduce.specs.declared.forms.entry.Entry.{Entry}

-- how many there are: at most d + 1 levels, the last one among them, d open containers and d + 1 heights
pub record IsOfSize (d : ℕ) (r : Form) : Type 0 where
  pub levels : length (levels_of r) ≤ d + 1
  pub opens : length r.opens ≤ d
  pub heights : length r.heights ≤ d + 1

-- the bounds that a depth sets, and the facts on which joins rely
pub record Fits (d : ℕ) (r : Form) : Type 0 where
  pub levels : length r.ended ≤ d
  pub opens : length r.opens ≤ d
  pub heights : length r.heights ≤ d + 1
  pub risen : length r.opens ≤ length r.ended + length r.heights
  -- where the form has no exit, all holders have faulted, or the heights decide
  pub decided : r.exit ≡ None → all_faulted r.last ≡ false → d < length r.ended + length r.heights

-- where something goes on, some holder has not faulted
abbrev pub GoesOn : Form → Type 0
GoesOn r = (x : Entry) → r.exit ≡ Some x → all_faulted r.last ≡ false

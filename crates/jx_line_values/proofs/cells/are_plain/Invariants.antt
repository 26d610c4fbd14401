-- The bytes so far do.
use Rattle.std.proofs.Common.{◌≡◌, take, true}
use Rattle.std.specs.List.{list_all}
use Rattle.jx_line_values.specs.Cells.{is_plain}
use Rattle.jx_line_values.proofs.cells.are_plain.Given as goal

abbrev pub invariant-loop-byte : goal.invariant-loop-byte
invariant-loop-byte l = list_all is_plain (take l.byte-index l.text) ≡ true

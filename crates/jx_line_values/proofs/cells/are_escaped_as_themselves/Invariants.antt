-- The bytes so far do.
use Rattle.std.proofs.Common.{◌≡◌, take, true}
use Rattle.std.specs.List.{list_all}
use Rattle.jx_line_values.specs.inside.Adding.{is_escaped_as_itself}
use Rattle.jx_line_values.proofs.cells.are_escaped_as_themselves.Given as goal

abbrev pub invariant-loop-byte : goal.invariant-loop-byte
invariant-loop-byte l = list_all is_escaped_as_itself (take l.byte-index l.text) ≡ true

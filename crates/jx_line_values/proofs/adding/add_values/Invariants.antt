-- The values so far.
use Rattle.std.proofs.Common.{◌≡◌, ◌++◌, map, take}
use Rattle.jx_line_values.specs.Cells.{separator}
use Rattle.jx_line_values.specs.LineValues.{joined, value_bytes}
use Rattle.jx_line_values.proofs.adding.add_values.Given as goal

abbrev pub invariant-loop-place : goal.invariant-loop-place
invariant-loop-place l = l.out.items ≡ l.initial.out.items ++ joined (separator l.task.form) (map (value_bytes l.task l.line) (take l.place l.found))

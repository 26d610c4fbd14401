-- The pointers so far.
use Rattle.std.proofs.Common.{◌≡◌, ◌++◌, map, take}
use Rattle.jx_line_values.specs.Cells.{separator, text_cell}
use Rattle.jx_line_values.specs.LineValues.{joined, none_word, pointers_of}
use Rattle.jx_line_values.proofs.adding.add_header.Given as goal

abbrev pub invariant-loop-place : goal.invariant-loop-place
invariant-loop-place l = l.out.items ≡ l.initial.out.items ++ joined (separator l.task.form) (map (text_cell l.task.form (none_word l.task)) (take l.place (pointers_of l.task)))

-- As many places so far.
use Rattle.std.proofs.Common.{◌≡◌, ◌++◌, List, ℕ, map, take}
use Rattle.jx_line_values.specs.Cells.{separator}
use Rattle.jx_line_values.specs.LineValues.{joined, none_word, pointers_of}
use Rattle.jx_line_values.proofs.adding.add_no_values.Given as goal

abbrev pub invariant-loop-place : goal.invariant-loop-place
invariant-loop-place l = l.out.items ≡ l.initial.out.items ++ joined (separator l.task.form) (map (λ (pointer : List ℕ). none_word l.task) (take l.place (pointers_of l.task)))

-- What is told so far, and of the rest.
use Rattle.std.proofs.Common.{◌≡◌, ◌++◌, drop, map}
use Rattle.std.specs.Prelude.{string_bytes}
use Rattle.jx_line_values.specs.inside.Adding.{told_of_all}
use Rattle.jx_line_values.proofs.telling.add_all_found.Given as goal

abbrev pub invariant-loop-place : goal.invariant-loop-place
invariant-loop-place l =
    l.told.items ++ told_of_all l.form l.number l.line (drop l.place (map string_bytes l.pointers)) (drop l.place l.found) ≡ l.initial.told.items ++ told_of_all l.form l.number l.line (map string_bytes l.pointers) l.found

-- What is told so far, and of the rest.
use Rattle.std.proofs.Common.{◌≡◌, ◌++◌, drop, map}
use Rattle.std.specs.Prelude.{string_bytes}
use Rattle.jx_values.specs.Values.{told_lines}
use Rattle.jx_values.proofs.telling.told_of_answers.Given as goal

abbrev pub invariant-loop-number : goal.invariant-loop-number
invariant-loop-number l =
    l.told.items ++ told_lines l.form l.text (drop l.number (map string_bytes l.pointers)) (drop l.number l.answers) ≡ told_lines l.form l.text (map string_bytes l.pointers) l.answers

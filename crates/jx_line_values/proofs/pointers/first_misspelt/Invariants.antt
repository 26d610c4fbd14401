-- The strings so far are pointers.
use Rattle.std.proofs.Common.{map, take}
use Rattle.std.specs.Prelude.{All, string_bytes}
use Rattle.jx_index.specs.Pointers.{IsPointer}
use Rattle.jx_line_values.proofs.pointers.first_misspelt.Given as goal

abbrev pub invariant-loop-place : goal.invariant-loop-place
invariant-loop-place l = All IsPointer (take l.place (map string_bytes l.pointers))

-- The bytes so far are blanks.
use Rattle.std.proofs.Common.{◌≡◌, take, true}
use Rattle.std.specs.List.{list_all}
use Rattle.jx_lex.specs.Uneventful.{is_blank}
use Rattle.jx_line_values.proofs.answering.are_blanks.Given as goal

abbrev pub invariant-loop-byte : goal.invariant-loop-byte
invariant-loop-byte l = list_all is_blank (take l.byte-index l.bytes) ≡ true

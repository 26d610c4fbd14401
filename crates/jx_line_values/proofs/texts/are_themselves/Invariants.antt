-- The bytes so far are.
use Rattle.std.proofs.Common.{◌≡◌, take, true}
use Rattle.std.specs.List.{list_all}
use Rattle.jx_line_values.specs.inside.Texts.{is_itself}
use Rattle.jx_line_values.proofs.texts.are_themselves.Given as goal

abbrev pub invariant-loop-byte : goal.invariant-loop-byte
invariant-loop-byte l = list_all is_itself (take l.byte-index l.bytes) ≡ true

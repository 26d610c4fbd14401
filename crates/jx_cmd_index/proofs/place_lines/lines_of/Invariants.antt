-- The lines so far.
use Rattle.std.proofs.Common.{◌≡◌, take}
use Rattle.jx_words.specs.inside.Lines.{pointer_lines}
use Rattle.jx_cmd_index.proofs.place_lines.lines_of.Given as goal

abbrev pub invariant-lines : goal.invariant-lines
invariant-lines l = l.bytes.items ≡ pointer_lines (take l.number l.answers)

-- The lines so far.
use Rattle.std.proofs.Common.{◌≡◌, take}
use Rattle.jx_cmd_index.specs.PartReports.{part_lines}
use Rattle.jx_cmd_index.proofs.part_lines.part_lines.Given as goal

abbrev pub invariant-loop-part : goal.invariant-loop-part
invariant-loop-part l = l.lines.items ≡ part_lines (take l.part-index l.parts)

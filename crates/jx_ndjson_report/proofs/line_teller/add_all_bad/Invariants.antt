-- The lines before this place were told and counted.
use Rattle.std.proofs.Common.{◌≡◌, ◌≤◌, ◌++◌, length, map, take}
use Rattle.jx_ndjson.specs.WholeLines.{moved_line}
use Rattle.jx_ndjson_report.specs.Output.{bad_lines, bad_of}
use Rattle.jx_ndjson_report.proofs.line_teller.add_all_bad.Given as goal

abbrev pub invariant-loop-at : goal.invariant-loop-at
invariant-loop-at l = record {
  count : l.count ≡ length (bad_of l.task.blanks (map (moved_line l.lines l.bytes) (take l.at l.judged)));
  most : l.count ≤ l.at;
  ready : l.ready.items ≡ l.initial.ready.items ++ bad_lines l.task (map (moved_line l.lines l.bytes) (take l.at l.judged));
}

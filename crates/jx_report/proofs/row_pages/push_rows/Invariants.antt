-- The lines so far stand there, those of the rest are to come, and there is room for these.
use Rattle.std.proofs.Common.{◌≡◌, ◌+◌, ◌-◌, ◌*◌, ◌≤◌, ◌++◌}
use Rattle.std.specs.Prelude.{vec_capacity, vec_len}
use Rattle.jx_report.specs.inside.Pages.{lines_between}
use Rattle.jx_report.proofs.row_pages.push_rows.Given as goal

abbrev pub invariant-loop-number : goal.invariant-loop-number
invariant-loop-number l = record {
  lines : l.lines.items ++ lines_between l.rows l.number l.fn.next ≡ l.initial.lines.items ++ lines_between l.rows l.fn.first l.fn.next;
  room : vec_len l.lines + (l.fn.next - l.number) * 156 ≤ vec_capacity l.lines;
  kept : vec_capacity l.initial.lines ≤ vec_capacity l.lines;
}

use Rattle.std.proofs.Common.{◌≡◌, ◌≤◌, ◌-◌, length, take}
use Rattle.jx_file_lines.specs.Lines.{feeds_in}
use Rattle.jx_file_lines.proofs.counting.feeds_in.Given as goal

abbrev pub invariant-lanes : goal.invariant-lanes
invariant-lanes l = record {
  within : l.i ≤ length l.text;
  few : l.count ≤ l.i;
  value : l.count ≡ feeds_in (take l.i l.text);
}

abbrev pub decreases-lanes : goal.decreases-lanes
decreases-lanes l = length l.text - l.i

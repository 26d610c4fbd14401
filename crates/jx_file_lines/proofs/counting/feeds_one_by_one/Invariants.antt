use Rattle.std.proofs.Common.{◌≡◌, ◌≤◌, take}
use Rattle.jx_file_lines.specs.Lines.{feeds_in}
use Rattle.jx_file_lines.proofs.counting.feeds_one_by_one.Given as goal

abbrev pub invariant-loop-byte : goal.invariant-loop-byte
invariant-loop-byte l = record {
  value : l.count ≡ feeds_in (take l.byte-index l.text);
  within : l.count ≤ l.byte-index;
}

-- Those before this place were counted.
use Rattle.std.proofs.Common.{◌≡◌, ◌≤◌, take}
use Rattle.jx_ndjson.specs.Tally.{count_of, is_blank_line}
use Rattle.jx_ndjson.proofs.line_tally.blanks_among.Given as goal

abbrev pub invariant-loop-at : goal.invariant-loop-at
invariant-loop-at l = record {
  count : l.count ≡ count_of is_blank_line (take l.at l.judged);
  most : l.count ≤ l.at;
}

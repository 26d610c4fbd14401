use Rattle.std.proofs.Common.{◌≡◌, ◌≤◌, ◌-◌, length, drop}
use Rattle.jx_book.specs.Runs.{spans_of}
use Rattle.jx_book.specs.Gaps.{gaps_from}
use Rattle.jx_book.proofs.stored.gaps.first_gap.Given as goal

abbrev pub invariant-loop-next : goal.invariant-loop-next
invariant-loop-next g l = record {
  bound : l.next ≤ length l.runs;
  same : gaps_from l.start (spans_of (drop l.number l.runs)) l.end ≡ gaps_from l.at (spans_of (drop l.next l.runs)) l.end;
}

abbrev pub decreases-loop-next : goal.decreases-loop-next
decreases-loop-next g l = length l.runs - l.next

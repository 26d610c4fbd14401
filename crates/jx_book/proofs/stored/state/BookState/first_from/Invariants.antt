use Rattle.std.proofs.Common.{ℕ, ◌-◌, ◌<◌, ◌≤◌, length}
use Rattle.std.specs.Prelude.{slice_index_or}
use Rattle.jx_book.proofs.stored.state.BookState.first_from.Given as goal

abbrev pub invariant-loop-low : goal.invariant-loop-low
invariant-loop-low g l = record {
  ordered : l.low ≤ l.high;
  bound : l.high ≤ length l.self.runs;
  below : (k : ℕ) (d : _) → k < l.low → (slice_index_or l.self.runs k d).span.end < l.start;
  here : (d : _) → l.high < length l.self.runs → l.start ≤ (slice_index_or l.self.runs l.high d).span.end;
}

abbrev pub decreases-loop-low : goal.decreases-loop-low
decreases-loop-low g l = l.high - l.low

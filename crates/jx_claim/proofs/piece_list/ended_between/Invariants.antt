use Rattle.std.proofs.Common.{ℕ, ◌-◌, ◌<◌, ◌≤◌, length, get_or}
use Rattle.jx_claim.proofs.piece_list.ended_between.Given as goal

abbrev pub invariant-loop-ended : goal.invariant-loop-ended
invariant-loop-ended l = record {
  bound : l.ended ≤ length l.ends;
  before : (i : ℕ) → i < l.ended → get_or l.ends i 0 ≤ l.offset;
}

abbrev pub decreases-loop-ended : goal.decreases-loop-ended
decreases-loop-ended l = length l.ends - l.ended

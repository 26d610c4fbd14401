-- What is cut lies in the batch.
use Rattle.std.proofs.Common.{length, ◌-◌, ◌≤◌}
use Rattle.jx_answer.proofs.batches.element_cuts.element_cuts.Given as goal

abbrev pub invariant-loop-at : goal.invariant-loop-at
invariant-loop-at l = l.at ≤ length l.batch

abbrev pub decreases-loop-at : goal.decreases-loop-at
decreases-loop-at l = length l.batch - l.at

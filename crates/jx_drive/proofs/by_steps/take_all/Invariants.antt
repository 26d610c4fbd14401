-- What stands before this place was taken.
use Rattle.std.proofs.Common.{◌≡◌, ◌+◌, ◌-◌, ◌≤◌, ◌++◌, ℕ, List, length, take}
use Rattle.jx_drive.proofs.by_steps.take_all.Given as goal

abbrev pub invariant-loop-at : goal.invariant-loop-at
invariant-loop-at g l = record {
  within : l.at ≤ length l.slice;
  count : g.T.StepTaker.end l.taker ≡ g.T.StepTaker.end l.initial.taker + l.at;
  taken : (bytes given : List ℕ) → g.T.StepTaker.has_taken l.task bytes given l.initial.taker → g.T.StepTaker.has_taken l.task (bytes ++ take l.at l.slice) given l.taker;
}

abbrev pub decreases-loop-at : goal.decreases-loop-at
decreases-loop-at g l = length l.slice - l.at

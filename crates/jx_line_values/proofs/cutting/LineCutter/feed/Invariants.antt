-- What stands before this place was taken.
use Rattle.std.proofs.Common.{◌-◌, ◌≤◌, ◌++◌, ℕ, List, length, take}
use Rattle.jx_line_values.specs.inside.Cutting.{HasTaken}
use Rattle.jx_line_values.proofs.cutting.LineCutter.feed.Given as goal

abbrev pub invariant-loop-at : goal.invariant-loop-at
invariant-loop-at l = record {
  within : l.at ≤ length l.slice;
  taken : (bytes given said : List ℕ) → HasTaken l.task bytes given said l.initial.self → HasTaken l.task (bytes ++ take l.at l.slice) given said l.self;
}

abbrev pub decreases-loop-at : goal.decreases-loop-at
decreases-loop-at l = length l.slice - l.at

use Rattle.std.proofs.Common.{◌≤◌, ◌<◌}
use Rattle.jx_reduce.specs.Offsets.{EachIn, RisingFrom}
use Rattle.test_memory_of_runs.proofs.tests.marks.lists.marks_of.Given as goal

abbrev pub invariant-loop-at : goal.invariant-loop-at
invariant-loop-at l = record { rising : RisingFrom 0 l.marks.items; below : EachIn (λ m. (0 ≤ m.at) × (m.at < l.at)) l.marks.items }

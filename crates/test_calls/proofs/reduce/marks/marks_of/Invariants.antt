use Rattle.std.proofs.Common.{◌≤◌, ◌<◌, ◌^◌}
use Rattle.jx_reduce.specs.Offsets.{EachIn, RisingFrom}
use Rattle.test_calls.proofs.reduce.marks.marks_of.Given as goal

abbrev pub invariant-loop-spelt : goal.invariant-loop-spelt
invariant-loop-spelt l = record {
  rising : RisingFrom 0 l.marks.items;
  below : EachIn (λ m. (0 ≤ m.at) × (m.at < l.low)) l.marks.items;
  low : l.low ≤ 2 ^ 32;
}

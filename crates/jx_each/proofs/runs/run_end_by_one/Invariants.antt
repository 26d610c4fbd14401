-- The bytes so far are in the set.
use Rattle.std.proofs.Common.{◌≤◌, ◌-◌, length, not, slice_index}
use Rattle.std.specs.Slice.Scan.{HoldsNowhere}
use Rattle.jx_each.proofs.runs.run_end_by_one.Given as goal

abbrev pub invariant-loop-i : goal.invariant-loop-i
invariant-loop-i g l = (l.from ≤ l.i) × (l.i ≤ length l.bytes) × HoldsNowhere (λ k. not (g.R.ByteSet.goes_on (slice_index l.bytes k))) l.from l.i

abbrev pub decreases-loop-i : goal.decreases-loop-i
decreases-loop-i g l = length l.bytes - l.i

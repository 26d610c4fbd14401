use Rattle.std.proofs.Common.{◌≤◌, ◌-◌, length, not, slice_index}
use Rattle.std.specs.Slice.Scan.{HoldsNowhere}
use Rattle.jx_lex.proofs.scanner.byte_sets.members_end_by_16.Given as goal

abbrev pub invariant-loop-i : goal.invariant-loop-i
invariant-loop-i g l = (l.from ≤ l.i) × (l.i ≤ length l.text) × HoldsNowhere (λ k. not (g.R.ByteSet.goes_on (slice_index l.text k))) l.from l.i

abbrev pub decreases-loop-i : goal.decreases-loop-i
decreases-loop-i g l = length l.text - l.i

-- No line feed stands before this place.
use Rattle.std.proofs.Common.{◌≤◌, ◌-◌, length, slice_index}
use Rattle.std.specs.Slice.Scan.{HoldsNowhere}
use Rattle.jx_ndjson.specs.Lines.{is_line_feed}
use Rattle.jx_ndjson.proofs.line_end.line_end_behind.Given as goal

abbrev pub invariant-loop-i : goal.invariant-loop-i
invariant-loop-i l = (l.i ≤ length l.text) × HoldsNowhere (λ k. is_line_feed (slice_index l.text k)) 0 l.i

abbrev pub decreases-loop-i : goal.decreases-loop-i
decreases-loop-i l = length l.text - l.i

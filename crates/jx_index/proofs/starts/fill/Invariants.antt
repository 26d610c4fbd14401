use Rattle.std.proofs.Common.{◌≤◌, ◌-◌, suc, length}
use Rattle.jx_index.proofs.starts.fill.Given as goal

abbrev pub invariant-loop-starts : goal.invariant-loop-starts
invariant-loop-starts l = length l.initial.starts.items ≤ length l.starts.items

abbrev pub decreases-loop-starts : goal.decreases-loop-starts
decreases-loop-starts l = suc l.node - length l.starts.items

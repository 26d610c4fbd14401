-- What was listed and what is still open are all that was open.
use Rattle.std.proofs.Common.{◌≡◌, ◌≤◌, ◌++◌, length}
use Rattle.jx_reduce.proofs.stack.open_containers.OpenContainers.take_all.Given as goal

abbrev pub invariant-loop-holders : goal.invariant-loop-holders
invariant-loop-holders l = (l.holders.items ++ l.self ≡ l.initial.self) × (length l.self ≤ length l.initial.self)

abbrev pub decreases-loop-holders : goal.decreases-loop-holders
decreases-loop-holders l = length l.self

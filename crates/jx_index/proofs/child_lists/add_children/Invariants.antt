use Rattle.std.proofs.Common.{◌≡◌, ◌++◌, length}
use Rattle.jx_index.proofs.child_lists.add_children.Given as goal

abbrev pub invariant-loop-child : goal.invariant-loop-child
invariant-loop-child l = l.list.items ++ l.children ≡ l.initial.list.items ++ l.initial.children

abbrev pub decreases-loop-child : goal.decreases-loop-child
decreases-loop-child l = length l.children

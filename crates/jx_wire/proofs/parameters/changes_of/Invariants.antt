use Rattle.jx_wire.specs.Requests.{change_pointer, IsChange}
use Rattle.jx_wire.proofs.Listed.{AreSoFar}
use Rattle.jx_wire.proofs.parameters.changes_of.Given as goal

-- the changes so far stand in front of those from here on, and no others do
abbrev pub invariant-loop-element : goal.invariant-loop-element
invariant-loop-element l = AreSoFar IsChange l.message change_pointer l.initial.element-iterator l.yielded l.element-iterator l.changes.items

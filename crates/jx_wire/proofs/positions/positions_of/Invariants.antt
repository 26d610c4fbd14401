use Rattle.jx_wire.specs.Requests.{position_pointer, IsPlace}
use Rattle.jx_wire.proofs.Listed.{AreSoFar}
use Rattle.jx_wire.proofs.positions.positions_of.Given as goal

-- the places so far stand in front of those from here on, and no others do
abbrev pub invariant-loop-element : goal.invariant-loop-element
invariant-loop-element l = AreSoFar IsPlace l.message position_pointer l.initial.element-iterator l.yielded l.element-iterator l.places.items

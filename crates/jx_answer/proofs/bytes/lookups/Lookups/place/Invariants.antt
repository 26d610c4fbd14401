use Rattle.jx_answer.specs.Found.{ArePlaced}
use Rattle.jx_answer.proofs.bytes.lookups.Lookups.place.Given as goal

abbrev pub invariant-loop-one : goal.invariant-loop-one
invariant-loop-one l = ArePlaced l.self.index.now l.self.pointers.now l.places

use Rattle.jx_answer.specs.Found.{ArePlaced}
use Rattle.jx_answer.proofs.bytes.lookups.Lookups.place_all.Given as goal

abbrev pub invariant-loop-part : goal.invariant-loop-part
invariant-loop-part l = ArePlaced l.self.index.now l.self.pointers.now l.places

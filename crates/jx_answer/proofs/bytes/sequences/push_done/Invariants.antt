use Rattle.std.proofs.Common.{take}
use Rattle.jx_answer.specs.inside.Pushed.{PushesEach}
use Rattle.jx_answer.proofs.bytes.sequences.push_done.Given as goal

abbrev pub invariant-loop-number : goal.invariant-loop-number
invariant-loop-number l = PushesEach l.text (take l.number l.done) l.initial.elements.items l.elements.items

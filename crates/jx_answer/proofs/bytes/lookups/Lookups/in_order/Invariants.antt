use Rattle.std.proofs.Common.{take}
use Rattle.std.specs.List.{AllZip}
use Rattle.jx_answer.specs.Found.{IsAnswerTo}
use Rattle.jx_answer.proofs.bytes.lookups.Lookups.in_order.Given as goal

abbrev pub invariant-loop-at : goal.invariant-loop-at
invariant-loop-at l = AllZip (IsAnswerTo l.self.index.now) (take l.at l.self.pointers.now) l.answers.items

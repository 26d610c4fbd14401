use Rattle.jx_c.proofs.Alls.{AreAnsweredTo}
use Rattle.jx_c.proofs.texts.all.answer_all.Given as goal

-- those before this one are answered
abbrev pub invariant-loop-at : goal.invariant-loop-at
invariant-loop-at l = AreAnsweredTo l.read l.pointers l.at l.initial.answers l.answers

-- The answers so far.
use Rattle.std.proofs.Common.{◌≡◌, take}
use Rattle.jx_words.specs.inside.ReadPointers.{answer_in, each_answer}
use Rattle.jx_words.proofs.pointer_answer.answers_in.Given as goal

abbrev pub invariant-loop-at : goal.invariant-loop-at
invariant-loop-at l = l.answers.items ≡ each_answer answer_in (take l.at l.unread) (take l.at l.found)

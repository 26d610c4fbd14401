-- The answers so far.
use Rattle.std.proofs.Common.{◌≡◌, take}
use Rattle.jx_words.specs.inside.ReadPointers.{each_answer}
use Rattle.jx_report.specs.inside.IndexAnswers.{answer_of}
use Rattle.jx_report.proofs.pointer_answers.answers_of.Given as goal

abbrev pub invariant-loop-at : goal.invariant-loop-at
invariant-loop-at l = l.answers.items ≡ each_answer answer_of (take l.at l.unread) (take l.at l.answered)

-- The line of a verdict, those of answers to pointers, and the status that follows.
use Rattle.std.specs.Prelude.{ℕ, List, [], ◌∷◌, ◌++◌, codes}
use Rattle.jx_run.specs.declared.texts.verdict.Verdict.{Verdict}
use Rattle.jx_run.specs.declared.texts.verdict.Verdict.TheVariants.{Accepted, Refused}
use Rattle.jx_ends.specs.declared.exit.Exit.{Exit}
use Rattle.jx_ends.specs.declared.exit.Exit.TheVariants.{Good, Bad}
use Rattle.jx_words.specs.declared.pointer_answer.PointerAnswer.{PointerAnswer}
use Rattle.jx_words.specs.Pointers.{answer_words, exit_after}
use Rattle.jx_words.specs.Words.{line, refusal_words}

-- a line for each answer
unfoldable pub pointer_lines : List PointerAnswer → List ℕ
pointer_lines [] = []
pointer_lines (one ∷ more) = line (answer_words one) ++ pointer_lines more

-- bad from the first answer on that does not say where a value stands
unfoldable pub exit_past_lines : Exit → List PointerAnswer → Exit
exit_past_lines exit [] = exit
exit_past_lines exit (one ∷ more) = exit_past_lines (exit_after exit one) more

abbrev pub verdict_line : Verdict → List ℕ
verdict_line Accepted = line (codes "accepted")
verdict_line (Refused refusal) = line (refusal_words refusal)

abbrev pub verdict_exit : Verdict → Exit
verdict_exit Accepted = Good
verdict_exit (Refused refusal) = Bad

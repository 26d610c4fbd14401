-- The lines that are written for the elements of a text sequence (RFC 7464).
use Rattle.std.specs.Prelude.{ℕ, List, [], ◌∷◌, ◌++◌, codes}
use Rattle.jx_answer.specs.declared.element.Element.{Element}
use Rattle.jx_answer.specs.declared.element.ElementAnswer.{ElementAnswer}
use Rattle.jx_answer.specs.Sequence.{judged, without_index}
use Rattle.jx_run.specs.declared.sequences.element_verdict.ElementVerdict.{ElementVerdict}
use Rattle.jx_run.specs.declared.sequences.element_verdict.ElementVerdict.TheVariants.{Accepted, Refused, MayBeCut, Unmarked}
use Rattle.jx_run.specs.declared.sequences.element_verdict.JudgedElement.{JudgedElement}
use Rattle.jx_ends.specs.declared.exit.Exit.{Exit}
use Rattle.jx_ends.specs.declared.exit.Exit.TheVariants.{Bad}
use Rattle.jx_words.specs.Words.{line, refusal_words, span_words}

abbrev pub verdict_words : ElementVerdict → List ℕ
verdict_words Accepted = codes "accepted"
verdict_words (Refused refusal) = refusal_words refusal
verdict_words MayBeCut = codes "may be cut"
verdict_words Unmarked = codes "unmarked"

-- S..E WORD
abbrev pub judged_line : JudgedElement → List ℕ
judged_line element = line (span_words element.span ++ codes " " ++ verdict_words element.verdict)

-- the index of an element is not shown
abbrev pub element_line : Element → List ℕ
element_line element = judged_line (judged element)

-- a line for each element, in order
unfoldable pub element_lines : List Element → List ℕ
element_lines [] = []
element_lines (element ∷ elements) = element_line element ++ element_lines elements

-- the same where the indexes are left out
unfoldable pub judged_lines : List JudgedElement → List ℕ
judged_lines [] = []
judged_lines (element ∷ elements) = judged_line element ++ judged_lines elements

-- bad from the first element on that is not accepted
abbrev pub exit_past_verdict : Exit → ElementVerdict → Exit
exit_past_verdict exit Accepted = exit
exit_past_verdict exit (Refused refusal) = Bad
exit_past_verdict exit MayBeCut = Bad
exit_past_verdict exit Unmarked = Bad

abbrev pub exit_past : Exit → ElementAnswer → Exit
exit_past exit answer = exit_past_verdict exit (without_index answer)

unfoldable pub exit_past_all : Exit → List Element → Exit
exit_past_all exit [] = exit
exit_past_all exit (element ∷ elements) = exit_past_all (exit_past exit element.answer) elements

-- the same where the indexes are left out
unfoldable pub exit_past_judged : Exit → List JudgedElement → Exit
exit_past_judged exit [] = exit
exit_past_judged exit (element ∷ elements) = exit_past_judged (exit_past_verdict exit element.verdict) elements

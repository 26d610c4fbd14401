-- The output for JSON Lines: a line for each that is not valid JSON, and how many there were.
use Rattle.std.specs.Prelude.{◌≡◌, ◌-◌, ℕ, suc, Bool, true, false, List, [], ◌∷◌, ◌++◌, codes, decimal, filter, flat_map, length}
use Rattle.std.specs.List.{AllZip}
use Rattle.jx_ndjson.specs.declared.judged_line.JudgedLine.{JudgedLine}
use Rattle.jx_ndjson.specs.declared.judged_line.LineVerdict.{LineVerdict}
use Rattle.jx_ndjson.specs.declared.judged_line.LineVerdict.TheVariants.{Accepted, Refused, MayBeCut, Blank}
use Rattle.jx_ndjson.specs.Answers.{AreAnswers, IsAnswer}
use Rattle.jx_ndjson.specs.Lines.{ended_lines}
use Rattle.jx_ends.specs.declared.exit.Exit.{Exit}
use Rattle.jx_ends.specs.declared.exit.Exit.TheVariants.{Good, Bad}
use Rattle.jx_run.specs.declared.texts.verdict.Refusal.TheVariants as of_text
use Rattle.jx_words.specs.Verdicts.{shown_output}
use Rattle.jx_words.specs.Words.{line, refusal_words, span_words}
use Rattle.jx_ndjson_report.specs.declared.task.BlankRule.{BlankRule}
use Rattle.jx_ndjson_report.specs.declared.task.BlankRule.TheVariants as on_blank
use Rattle.jx_ndjson_report.specs.declared.task.LineForm.{LineForm}
use Rattle.jx_ndjson_report.specs.declared.task.LineForm.TheVariants.{Plain, Mark, Object}
use Rattle.jx_ndjson_report.specs.declared.task.LinesTask.{LinesTask}

-- ---- of one line

abbrev pub is_good : LineVerdict → Bool
is_good Accepted = true
is_good (Refused refusal) = false
is_good MayBeCut = false
is_good Blank = false

-- an empty line that is passed is neither good nor bad
abbrev pub is_bad : BlankRule → LineVerdict → Bool
is_bad rule Accepted = false
is_bad rule (Refused refusal) = true
is_bad rule MayBeCut = true
is_bad on_blank.Refused Blank = true
is_bad on_blank.Passed Blank = false

abbrev pub verdict_words : LineVerdict → List ℕ
verdict_words Accepted = codes "accepted"
verdict_words (Refused refusal) = refusal_words refusal
verdict_words MayBeCut = codes "may be cut"
verdict_words Blank = codes "blank"

-- a verdict in one word or two, without its offset
abbrev pub verdict_name : LineVerdict → List ℕ
verdict_name Accepted = codes "accepted"
verdict_name (Refused (of_text.Stopped at)) = codes "stopped"
verdict_name (Refused of_text.Truncated) = codes "truncated"
verdict_name (Refused (of_text.TooDeep at)) = codes "too deep"
verdict_name (Refused (of_text.RepeatedName at)) = codes "repeated name"
verdict_name MayBeCut = codes "may be cut"
verdict_name Blank = codes "blank"

-- the offset of the place that a verdict on the line from start to end is about
abbrev pub offset_in : ℕ → ℕ → LineVerdict → ℕ
offset_in start end Accepted = start
offset_in start end (Refused (of_text.Stopped at)) = at
offset_in start end (Refused of_text.Truncated) = end
offset_in start end (Refused (of_text.TooDeep at)) = at
offset_in start end (Refused (of_text.RepeatedName at)) = at
offset_in start end MayBeCut = end
offset_in start end Blank = start

abbrev pub offset_of : JudgedLine → ℕ
offset_of j = offset_in j.span.start j.span.end j.verdict

-- the byte there, counted from 1 in its line
abbrev pub column_of : JudgedLine → ℕ
column_of j = suc (offset_of j - j.span.start)

-- a member of an object whose value is a number, and the one of the verdict
unfoldable pub member : List ℕ → ℕ → List ℕ
member name number = name ++ decimal number

unfoldable pub verdict_member : LineVerdict → List ℕ
verdict_member v = codes ",\"verdict\":\"" ++ verdict_name v ++ codes "\""

-- N S..E VERDICT, or N:COLUMN: VERDICT, or the rest of an object
abbrev pub told_line : LineForm → List ℕ → JudgedLine → List ℕ
told_line Plain front j = front ++ decimal j.number ++ codes " " ++ span_words j.span ++ codes " " ++ line (verdict_words j.verdict)
told_line Mark front j = front ++ decimal j.number ++ codes ":" ++ decimal (column_of j) ++ codes ": " ++ line (verdict_words j.verdict)
told_line Object front j =
    front ++ member (codes "\"line\":") j.number ++ member (codes ",\"column\":") (column_of j) ++ member (codes ",\"start\":") j.span.start
    ++ member (codes ",\"end\":") j.span.end ++ member (codes ",\"offset\":") (offset_of j) ++ verdict_member j.verdict ++ line (codes "}")

-- ---- of all lines

abbrev pub good_of : List JudgedLine → List JudgedLine
good_of answers = filter (λ (j : JudgedLine). is_good j.verdict) answers

abbrev pub bad_of : BlankRule → List JudgedLine → List JudgedLine
bad_of rule answers = filter (λ (j : JudgedLine). is_bad rule j.verdict) answers

-- a line for each bad one, in order
abbrev pub bad_lines : LinesTask → List JudgedLine → List ℕ
bad_lines task answers = shown_output task.is_quiet (flat_map (told_line task.form task.front.items) (bad_of task.blanks answers))

-- accepted A, refused R, or nothing, or the rest of an object
abbrev pub total_words : LineForm → List ℕ → ℕ → ℕ → List ℕ
total_words Plain front good bad = front ++ codes "accepted " ++ decimal good ++ codes ", refused " ++ line (decimal bad)
total_words Mark front good bad = []
total_words Object front good bad = front ++ member (codes "\"accepted\":") good ++ member (codes ",\"refused\":") bad ++ line (codes "}")

abbrev pub total_line : LinesTask → List JudgedLine → List ℕ
total_line task answers = shown_output task.is_quiet (total_words task.form task.front.items (length (good_of answers)) (length (bad_of task.blanks answers)))

-- good where no line is bad
abbrev pub exit_of : List JudgedLine → Exit
exit_of [] = Good
exit_of (j ∷ bad) = Bad

-- ---- of an input

-- the output that is due of the bytes of an input: a line for each bad one of the lines that a line feed ends
pub record IsDue (task : LinesTask) (input output : List ℕ) : Type 0 where
  pub answers : List JudgedLine
  pub are_answers : AllZip (IsAnswer task.settings) (ended_lines task.settings.mark input) answers
  pub written : output ≡ bad_lines task answers

-- the whole output for an input, and the status
pub record LinesOutput (task : LinesTask) (input output : List ℕ) (exit : Exit) : Type 0 where
  pub answers : List JudgedLine
  pub are_answers : AreAnswers task.settings input answers
  pub written : output ≡ bad_lines task answers ++ total_line task answers
  pub ends : exit ≡ exit_of (bad_of task.blanks answers)

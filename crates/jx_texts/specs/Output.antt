-- The output for the texts of a stream: a line for each, as soon as it has ended.
use Rattle.std.specs.Prelude.{◌≡◌, ℕ, List, [], ◌∷◌, ◌++◌, codes, flat_map}
use Rattle.jx_run.specs.declared.texts.verdict.Verdict.{Verdict}
use Rattle.jx_run.specs.declared.texts.verdict.Verdict.TheVariants.{Accepted, Refused}
use Rattle.jx_ends.specs.declared.exit.Exit.{Exit}
use Rattle.jx_ends.specs.declared.exit.Exit.TheVariants.{Good, Bad}
use Rattle.jx_words.specs.Verdicts.{shown_output}
use Rattle.jx_words.specs.Words.{line, refusal_words, span_words}
use Rattle.jx_texts.specs.declared.judged_text.JudgedText.{JudgedText}
use Rattle.jx_texts.specs.declared.task.TextsTask.{TextsTask}
use Rattle.jx_texts.specs.Texts.{AreSettled, AreTexts}

abbrev pub verdict_words : Verdict → List ℕ
verdict_words Accepted = codes "accepted"
verdict_words (Refused refusal) = refusal_words refusal

-- S..E VERDICT, after what stands in front of each line
abbrev pub text_line : List ℕ → JudgedText → List ℕ
text_line front told = front ++ line (span_words told.span ++ codes " " ++ verdict_words told.verdict)

-- a line for each, in order
abbrev pub lines_of : TextsTask → List JudgedText → List ℕ
lines_of task told = shown_output task.is_quiet (flat_map (text_line task.front.items) told)

abbrev pub exit_past_verdict : Exit → Verdict → Exit
exit_past_verdict exit Accepted = exit
exit_past_verdict exit (Refused refusal) = Bad

-- bad from the first text on that is not accepted
abbrev pub exit_past : Exit → List JudgedText → Exit
exit_past exit [] = exit
exit_past exit (t ∷ told) = exit_past (exit_past_verdict exit t.verdict) told

-- the output that is due of the bytes of an input: a line for each text that has ended, and for a fault
pub record IsDue (task : TextsTask) (input output : List ℕ) : Type 0 where
  pub told : List JudgedText
  pub are_settled : AreSettled task.depth 0 input told
  pub written : output ≡ lines_of task told

-- the whole output for an input, and the status
pub record TextsOutput (task : TextsTask) (input output : List ℕ) (exit : Exit) : Type 0 where
  pub told : List JudgedText
  pub are_texts : AreTexts task.depth 0 input told
  pub written : output ≡ lines_of task told
  pub ends : exit ≡ exit_past Good told

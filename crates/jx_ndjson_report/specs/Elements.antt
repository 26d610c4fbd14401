-- The output for the elements of a text sequence: a line for each, as soon as it ends.
use Rattle.std.specs.Prelude.{◌≡◌, ℕ, List, ◌++◌, flat_map}
use Rattle.std.specs.List.{AllZip}
use Rattle.jx_run.specs.declared.sequences.element_verdict.JudgedElement.{JudgedElement}
use Rattle.jx_run.specs.ElementVerdict.{IsJudgedElement}
use Rattle.jx_ndjson.specs.ElementReading.{AreJudgedElements}
use Rattle.jx_ndjson.specs.Elements.{ended_elements}
use Rattle.jx_ends.specs.declared.exit.Exit.{Exit}
use Rattle.jx_ends.specs.declared.exit.Exit.TheVariants.{Good}
use Rattle.jx_report.specs.Elements.{exit_past_judged, judged_line}
use Rattle.jx_words.specs.Verdicts.{shown_output}
use Rattle.jx_ndjson_report.specs.declared.task.ElementsTask.{ElementsTask}

-- S..E VERDICT, after what stands in front of each line
abbrev pub element_line : List ℕ → JudgedElement → List ℕ
element_line front element = front ++ judged_line element

-- a line for each, in order
abbrev pub lines_of : ElementsTask → List JudgedElement → List ℕ
lines_of task answers = shown_output task.is_quiet (flat_map (element_line task.front.items) answers)

-- the output that is due of the bytes of an input: a line for each element that a record separator ends
pub record IsDue (task : ElementsTask) (input output : List ℕ) : Type 0 where
  pub answers : List JudgedElement
  pub are_answers : AllZip (IsJudgedElement task.settings.depth) (ended_elements task.settings.mark input) answers
  pub written : output ≡ lines_of task answers

-- the whole output for an input, and the status
pub record ElementsOutput (task : ElementsTask) (input output : List ℕ) (exit : Exit) : Type 0 where
  pub answers : List JudgedElement
  pub are_answers : AreJudgedElements task.settings input answers
  pub written : output ≡ lines_of task answers
  pub ends : exit ≡ exit_past_judged Good answers

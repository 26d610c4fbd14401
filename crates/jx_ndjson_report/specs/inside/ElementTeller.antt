-- A teller of elements as contracts see it, and what it has taken.
use Rattle.std.specs.Prelude.{◌≡◌, ℕ, List, ◌++◌}
use Rattle.jx_run.specs.declared.sequences.element_verdict.JudgedElement.{JudgedElement}
use Rattle.jx_ndjson.specs.ElementReading.{ElementReaderValue, HasToldElements}
use Rattle.jx_ends.specs.declared.exit.Exit.{Exit}
use Rattle.jx_ends.specs.declared.exit.Exit.TheVariants.{Good}
use Rattle.jx_report.specs.Elements.{exit_past_judged}
use Rattle.jx_words.specs.Verdicts.{shown_output}
use Rattle.jx_ndjson_report.specs.declared.task.ElementsTask.{ElementsTask}
use Rattle.jx_ndjson_report.specs.Elements.{element_line, lines_of}

pub record ElementTellerValue : Type 0 where
  -- the reader of the elements
  pub elements : ElementReaderValue
  -- the exit by those that ended
  pub exit : Exit
  -- the bytes that wait to be written
  pub ready : List ℕ

-- it has taken these bytes of an input, from its start, and told this of them before what waits
pub record HasTaken (task : ElementsTask) (bytes given : List ℕ) (t : ElementTellerValue) : Type 0 where
  pub answers : List JudgedElement
  pub told : HasToldElements task.settings bytes answers t.elements
  pub ends : t.exit ≡ exit_past_judged Good answers
  pub written : given ++ t.ready ≡ lines_of task answers

-- the bytes that are written for one element
abbrev pub one_line : ElementsTask → JudgedElement → List ℕ
one_line task element = shown_output task.is_quiet (element_line task.front.items element)

-- The lines that pass through of JSON Lines: the bytes of each accepted line, as they stand in the input.
use Rattle.std.specs.Prelude.{◌≡◌, ℕ, suc, List, [], ◌++◌, flat_map, if◌then◌else◌, slice_range}
use Rattle.std.specs.List.{AllZip}
use Rattle.jx_ndjson.specs.declared.judged_line.JudgedLine.{JudgedLine}
use Rattle.jx_ndjson.specs.Answers.{AreAnswers, IsAnswer}
use Rattle.jx_ndjson.specs.Lines.{ended_lines}
use Rattle.jx_ends.specs.declared.exit.Exit.{Exit}
use Rattle.jx_ndjson_report.specs.declared.task.LinesTask.{LinesTask}
use Rattle.jx_ndjson_report.specs.Output.{bad_lines, bad_of, exit_of, is_good, total_line}

-- the bytes at the span of an accepted line, and the line feed behind it where one ends it; of any other line none
abbrev pub passed_line : List ℕ → JudgedLine → List ℕ
passed_line input j = if is_good j.verdict then slice_range input j.span.start (suc j.span.end) else []

-- of each line, in order
abbrev pub passed_lines : List ℕ → List JudgedLine → List ℕ
passed_lines input answers = flat_map (passed_line input) answers

-- the output that is due of the bytes of an input: the accepted ones of the lines that a line feed ends, and a report on the bad ones
pub record IsPassDue (task : LinesTask) (input passed report : List ℕ) : Type 0 where
  pub answers : List JudgedLine
  pub are_answers : AllZip (IsAnswer task.settings) (ended_lines task.settings.mark input) answers
  pub passes : passed ≡ passed_lines input answers
  pub reports : report ≡ bad_lines task answers

-- all that passes of an input, the whole report on it, and the status
pub record PassOutput (task : LinesTask) (input passed report : List ℕ) (exit : Exit) : Type 0 where
  pub answers : List JudgedLine
  pub are_answers : AreAnswers task.settings input answers
  pub passes : passed ≡ passed_lines input answers
  pub reports : report ≡ bad_lines task answers ++ total_line task answers
  pub ends : exit ≡ exit_of (bad_of task.blanks answers)

-- The output for one line, and for the counts of all.
use Rattle.std.specs.Prelude.{ℕ, zero, suc, List, [], if◌then◌else◌}
use Rattle.jx_ndjson.specs.declared.judged_line.JudgedLine.{JudgedLine}
use Rattle.jx_ends.specs.declared.exit.Exit.{Exit}
use Rattle.jx_ends.specs.declared.exit.Exit.TheVariants.{Good, Bad}
use Rattle.jx_words.specs.Verdicts.{shown_output}
use Rattle.jx_ndjson_report.specs.declared.task.LinesTask.{LinesTask}
use Rattle.jx_ndjson_report.specs.Output.{is_bad, told_line}

-- the bytes that are written for one line
abbrev pub bad_line : LinesTask → JudgedLine → List ℕ
bad_line task j = shown_output task.is_quiet (if is_bad task.blanks j.verdict then told_line task.form task.front.items j else [])

-- the exit by how many lines are bad
abbrev pub exit_by : ℕ → Exit
exit_by zero = Good
exit_by (suc n) = Bad

-- A teller of lines as contracts see it, and what it has taken.
use Rattle.std.specs.Prelude.{◌≡◌, ℕ, List, ◌++◌, length}
use Rattle.jx_ndjson.specs.declared.judged_line.JudgedLine.{JudgedLine}
use Rattle.jx_ndjson.specs.Reading.{HasTold, LineReaderValue}
use Rattle.jx_ndjson_report.specs.declared.task.LinesTask.{LinesTask}
use Rattle.jx_ndjson_report.specs.Output.{bad_lines, bad_of, good_of}
use Rattle.jx_ndjson_report.specs.Passed.{passed_lines}

pub record LineTellerValue : Type 0 where
  -- the reader of the lines
  pub lines : LineReaderValue
  -- how many of those that ended are good, and how many bad
  pub good : ℕ
  pub bad : ℕ
  -- the bytes that wait to be written
  pub ready : List ℕ

-- it has taken these bytes of an input, from its start, and told this of them before what waits
pub record HasTaken (task : LinesTask) (bytes given : List ℕ) (t : LineTellerValue) : Type 0 where
  pub answers : List JudgedLine
  pub told : HasTold task.settings bytes answers t.lines
  pub good_are : t.good ≡ length (good_of answers)
  pub bad_are : t.bad ≡ length (bad_of task.blanks answers)
  pub written : given ++ t.ready ≡ bad_lines task answers

-- the same, and these are the answers on the lines that ended
abbrev pub HasTakenAs : LinesTask → List ℕ → List ℕ → List JudgedLine → LineTellerValue → Type 0
HasTakenAs task bytes given answers t = (taken : HasTaken task bytes given t) × (taken.answers ≡ answers)

-- lines that stand from an offset on pass with all their bytes, whatever is before and behind them
abbrev pub AllPass : ℕ → List ℕ → List JudgedLine → Type 0
AllPass at bytes answers = (front more : List ℕ) → length front ≡ at → passed_lines (front ++ (bytes ++ more)) answers ≡ bytes

-- behind bytes with these answers it has taken more, which are lines that pass
pub record HasTakenTexts (task : LinesTask) (bytes given more : List ℕ) (answers : List JudgedLine) (at : ℕ) (t : LineTellerValue) : Type 0 where
  pub texts : List JudgedLine
  pub taken : HasTakenAs task (bytes ++ more) given (answers ++ texts) t
  pub pass : AllPass at more texts

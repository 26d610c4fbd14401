-- A passer of lines as contracts see it, and what it has taken.
use Rattle.std.specs.Prelude.{◌≡◌, ℕ, zero, suc, List, [], ◌++◌, Option, None, Some, length, if◌then◌else◌}
use Rattle.jx_ndjson.specs.declared.judged_line.JudgedLine.{JudgedLine}
use Rattle.jx_ndjson_report.specs.declared.task.LinesTask.{LinesTask}
use Rattle.jx_ndjson_report.specs.Output.{is_good}
use Rattle.jx_ndjson_report.specs.Passed.{passed_lines}
use Rattle.jx_ndjson_report.specs.inside.LineTeller.{HasTaken, LineTellerValue}

pub record LinePasserValue : Type 0 where
  -- the teller of the lines that are not passed
  pub teller : LineTellerValue
  -- the bytes of the line that goes on
  pub kept : List ℕ
  -- the lines that wait to be passed
  pub ready : List ℕ

-- it has taken these bytes of an input, from its start; this was passed and told of them before what waits. What passes is the
-- same, whatever follows
pub record HasPassed (task : LinesTask) (bytes given said : List ℕ) (p : LinePasserValue) : Type 0 where
  pub taken : HasTaken task bytes said p.teller
  pub before : List ℕ
  pub kept_is : bytes ≡ before ++ p.kept
  pub start_is : length before ≡ p.teller.lines.reader.start
  pub count_is : length p.kept ≡ p.teller.lines.reader.count
  pub passes : (more : List ℕ) → given ++ p.ready ≡ passed_lines (bytes ++ more) taken.answers

-- the bytes that pass of a line that ended, if one did
abbrev pub passed_bytes : Option JudgedLine → List ℕ → List ℕ
passed_bytes None bytes = []
passed_bytes (Some j) bytes = if is_good j.verdict then bytes else []

-- the bytes that are kept of a line, so many bytes of which were read
abbrev pub kept_of : ℕ → List ℕ → List ℕ
kept_of zero bytes = []
kept_of (suc count) bytes = bytes

-- JSON Lines that workers judge part by part, and how the lines that report them are written.
use Rattle.std.specs.Prelude.{◌≡◌, ◌+◌, ℕ, List, Option}
use Rattle.std.specs.Io.KnownBytes.{Appends}
use Rattle.jx_run.specs.declared.texts.settings.Settings.{Settings}
use Rattle.jx_ndjson.specs.declared.judged_line.JudgedLine.{JudgedLine}
use Rattle.jx_ndjson.specs.declared.line_tally.LineCounts.{LineCounts}
use Rattle.jx_ndjson.specs.Tally.{HasTaken, TallyValue}
use Rattle.jx_ndjson.specs.WholeLines.{AreWhole, WholeLinesValue}
use Rattle.jx_ndjson_report.specs.declared.task.BlankRule.{BlankRule}
use Rattle.jx_ndjson_report.specs.declared.task.BlankRule.TheVariants.{Refused, Passed}
use Rattle.jx_ndjson_report.specs.declared.task.LinesTask.{LinesTask}
use Rattle.jx_drive_at.specs.declared.report_at_fault.ReportAtFault.{ReportAtFault}
use Rattle.jx_drive_at.specs.declared.report_at_fault.ReportAtFault.TheVariants.{Memory, Read, Write}
use Rattle.jx_parallel_report.specs.LinesAt.{WroteLines, WroteLinesInPart}
use Rattle.jx_parallel.specs.declared.part_reader.PartRule.{PartRule}
use Rattle.jx_parallel.specs.Offsets.{StandThere}

-- these are the answers on whole lines, whose offsets and numbers count from the first byte and the first line
abbrev pub IsPart : PartRule → ℕ → List ℕ → WholeLinesValue → Type 0
IsPart rule at bytes part = (answers : List JudgedLine) × AreWhole rule.depth bytes answers part

-- how many lines of so many of each kind are reported
abbrev pub reported : BlankRule → LineCounts → ℕ
reported Refused counts = counts.refused + counts.blank
reported Passed counts = counts.refused

-- the bytes that are written of lines
abbrev pub Telling : Type 0
Telling = List JudgedLine → List ℕ

-- it has read these bytes, and what it gave of their lines was written, before the lines that wait
pub record HasRead (settings : Settings) (told : Telling) (rule : PartRule) (bytes written : List ℕ) (t : TallyValue) : Type 0 where
  pub depth : rule.depth ≡ settings.depth
  pub given : List JudgedLine
  pub taken : HasTaken settings bytes given t
  pub written_is : written ≡ told given

-- it has read a beginning of the content, and what it gave of its lines was written
pub record IsTold (settings : Settings) (told : Telling) (rule : PartRule) (known written grown : Option (List ℕ)) (t : TallyValue) : Type 0 where
  pub text : List ℕ
  pub output : List ℕ
  pub there : StandThere known 0 text
  pub read : HasRead settings told rule text output t
  pub wrote : Appends written grown output

-- the output that a fault leaves
abbrev pub AfterFault : {E : Type 0} → LinesTask → Option (List ℕ) → (E → Type 0) → Option (List ℕ) → Option (List ℕ) → ReportAtFault E → Type 0
AfterFault task known may_fail written grown Memory = WroteLines task known written grown
AfterFault task known may_fail written grown (Read reason) = may_fail reason × WroteLines task known written grown
AfterFault task known may_fail written grown Write = WroteLinesInPart task known written grown

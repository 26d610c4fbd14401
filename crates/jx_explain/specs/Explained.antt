-- The report on a text that is read to its end: its words are not described, but that they are by the verdict.
use Rattle.std.specs.Prelude.{◌≡◌, ℕ, ◌≤◌, List, length, Option}
use Rattle.jx_run.specs.declared.texts.verdict.Verdict.{Verdict}
use Rattle.jx_run.specs.declared.texts.verdict.Verdict.TheVariants.{Accepted, Refused}
use Rattle.jx_index.specs.ByNames.{IsVerdictBy}
use Rattle.jx_task.specs.declared.command.Command.{Command}
use Rattle.jx_ends.specs.declared.exit.Exit.{Exit}
use Rattle.jx_ends.specs.declared.exit.Exit.TheVariants.{Good, Bad}
use Rattle.jx_ends.specs.Ends.{ReadsToEnd}
use Rattle.jx_report.specs.Reports.{greatest_length}

-- good where the text is accepted
abbrev pub exit_by : Verdict → Exit
exit_by Accepted = Good
exit_by (Refused refusal) = Bad

-- the reader gave all that it had, in no more chunks than there may be, and the status is by the verdict of the
-- settings on it
pub record Explains (command : Command) (unread left : Option (List ℕ)) (exit : Exit) : Type 0 where
  pub text : List ℕ
  pub read : ReadsToEnd unread left text
  pub few : length text ≤ greatest_length command.piece
  pub verdict : Verdict
  pub is_verdict : IsVerdictBy command.settings text verdict
  pub exit_is : exit ≡ exit_by verdict

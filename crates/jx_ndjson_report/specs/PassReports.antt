-- A pass of lines from a reader to a writer, beside a report to another writer.
use Rattle.std.specs.Prelude.{◌⊎◌, ◌≤◌, ℕ, List, ◌++◌, Option, length, take}
use Rattle.std.specs.Io.KnownBytes.{Appends, Consumes}
use Rattle.jx_ends.specs.declared.exit.Exit.{Exit}
use Rattle.jx_ends.specs.Ends.{ReadsToEnd, AppendsBeginning}
use Rattle.jx_ndjson_report.specs.declared.task.LinesTask.{LinesTask}
use Rattle.jx_ndjson_report.specs.Passed.{IsPassDue, PassOutput}

-- the writer got a beginning of the bytes, or all
abbrev pub AppendsUpTo : Option (List ℕ) → Option (List ℕ) → List ℕ → Type 0
AppendsUpTo old new bytes = (n : ℕ) × (n ≤ length bytes) × Appends old new (take n bytes)

-- one of two writers got a beginning of its bytes, and not all: the first, or else the second after the first got all
abbrev pub AppendsInPart : (written grown told retold : Option (List ℕ)) → (passed report : List ℕ) → Type 0
AppendsInPart written grown told retold passed report =
    (AppendsBeginning written grown passed × AppendsUpTo told retold report) ⊎ (Appends written grown passed × AppendsBeginning told retold report)

-- the reader gave all that it had; one writer got all that passes of it, and the other one the whole report on it
pub record PassesAll (task : LinesTask) (unread left written grown told retold : Option (List ℕ)) (exit : Exit) : Type 0 where
  pub text : List ℕ
  pub passed : List ℕ
  pub report : List ℕ
  pub read : ReadsToEnd unread left text
  pub answer : PassOutput task text passed report exit
  pub wrote : Appends written grown passed
  pub says : Appends told retold report

-- both writers got what is due of the bytes that were read
pub record PassedDue (task : LinesTask) (unread left written grown told retold : Option (List ℕ)) : Type 0 where
  pub text : List ℕ
  pub passed : List ℕ
  pub report : List ℕ
  pub read : Consumes unread left text
  pub due : IsPassDue task text passed report
  pub wrote : Appends written grown passed
  pub says : Appends told retold report

-- both writers got what is due of a beginning of the bytes that were read: whole lines
pub record PassedLines (task : LinesTask) (unread left written grown told retold : Option (List ℕ)) : Type 0 where
  pub text : List ℕ
  pub more : List ℕ
  pub passed : List ℕ
  pub report : List ℕ
  pub read : Consumes unread left (text ++ more)
  pub due : IsPassDue task text passed report
  pub wrote : Appends written grown passed
  pub says : Appends told retold report

-- the writers got a beginning of what is due of the bytes that were read, or of all that passes of them and the whole report
pub record PassedInPart (task : LinesTask) (unread left written grown told retold : Option (List ℕ)) : Type 0 where
  pub text : List ℕ
  pub passed : List ℕ
  pub report : List ℕ
  pub read : Consumes unread left text
  pub of : IsPassDue task text passed report ⊎ ((exit : Exit) × PassOutput task text passed report exit)
  pub wrote : AppendsInPart written grown told retold passed report

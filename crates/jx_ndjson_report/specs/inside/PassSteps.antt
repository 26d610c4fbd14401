-- How lines are passed and told batch by batch.
use Rattle.std.specs.Prelude.{◌≡◌, ℕ, List, [], ◌++◌, Option}
use Rattle.std.specs.Io.KnownBytes.{Appends, Consumes, IsAtEnd}
use Rattle.jx_ndjson_report.specs.declared.task.LinesTask.{LinesTask}
use Rattle.jx_ndjson_report.specs.Passed.{IsPassDue}
use Rattle.jx_ndjson_report.specs.PassReports.{AppendsInPart}
use Rattle.jx_ndjson_report.specs.inside.LinePasser.{HasPassed, LinePasserValue}

-- a batch was taken, and what was due then was written
pub record PassesOn (task : LinesTask) (written grown told retold : Option (List ℕ)) (batch : List ℕ) (old new : LinePasserValue) : Type 0 where
  pub more : List ℕ
  pub tells : List ℕ
  pub wrote : Appends written grown more
  pub says : Appends told retold tells
  pub takes : (text given said : List ℕ) → HasPassed task text given said old → HasPassed task (text ++ batch) (given ++ more) (said ++ tells) new
  pub none_wait : new.ready ≡ []
  pub none_told : new.teller.ready ≡ []

-- a batch was taken, and a beginning of what was due then was written
pub record PassesPart (task : LinesTask) (written grown told retold : Option (List ℕ)) (batch : List ℕ) (old : LinePasserValue) : Type 0 where
  pub more : List ℕ
  pub tells : List ℕ
  pub wrote : AppendsInPart written grown told retold more tells
  pub due : (text given said : List ℕ) → HasPassed task text given said old → IsPassDue task (text ++ batch) (given ++ more) (said ++ tells)

-- all that was read was taken, and all that is due of it was written
pub record IsPassed (task : LinesTask) (unread left written grown told retold : Option (List ℕ)) (p : LinePasserValue) : Type 0 where
  pub text : List ℕ
  pub given : List ℕ
  pub said : List ℕ
  pub read : Consumes unread left text
  pub wrote : Appends written grown given
  pub says : Appends told retold said
  pub taken : HasPassed task text given said p
  pub none_wait : p.ready ≡ []
  pub none_told : p.teller.ready ≡ []

-- and nothing is left to read
abbrev pub IsAllPassed : LinesTask → (unread left written grown told retold : Option (List ℕ)) → LinePasserValue → Type 0
IsAllPassed task unread left written grown told retold p = IsPassed task unread left written grown told retold p × IsAtEnd left

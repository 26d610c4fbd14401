-- How the first bad lines are reported batch by batch.
use Rattle.std.specs.Prelude.{◌≡◌, ◌<◌, ℕ, List, [], ◌++◌, Option}
use Rattle.jx_drive.specs.inside.Steps.{IsAllWritten, IsWritten, Takings, WritesOn}
use Rattle.jx_ndjson_report.specs.declared.task.LinesTask.{LinesTask}
use Rattle.jx_ndjson_report.specs.inside.LineTeller.{HasTaken, LineTellerValue}

-- it has taken these bytes of an input, and fewer than so many of the lines that ended are bad
abbrev pub HasTakenBelow : LinesTask → ℕ → List ℕ → List ℕ → LineTellerValue → Type 0
HasTakenBelow task most bytes given t = HasTaken task bytes given t × (t.bad < most)

-- it has taken a beginning of them, and so many are bad
pub record HasTakenMost (task : LinesTask) (most : ℕ) (bytes given : List ℕ) (t : LineTellerValue) : Type 0 where
  pub front : List ℕ
  pub rest : List ℕ
  pub cut : bytes ≡ front ++ rest
  pub taken : HasTaken task front given t
  pub full : t.bad ≡ most

-- the bytes of its report that wait; it has no messages
abbrev pub ready_of : LineTellerValue → List ℕ
ready_of t = t.ready

abbrev pub none_of : LineTellerValue → List ℕ
none_of t = []

-- a batch was taken, and what was due then was written
abbrev pub WritesFirst : (HadTaken Has : Takings LineTellerValue) → (written grown : Option (List ℕ)) → List ℕ → (old new : LineTellerValue) → Type 0
WritesFirst HadTaken Has written grown batch old new = WritesOn HadTaken Has ready_of none_of written grown batch old new

-- all that was read was taken, and what is due of it was written
abbrev pub IsFirstWritten : LinesTask → ℕ → (unread left written grown : Option (List ℕ)) → LineTellerValue → Type 0
IsFirstWritten task most unread left written grown t = IsWritten (HasTakenBelow task most) ready_of none_of unread left written grown t

-- and nothing is left to read
abbrev pub IsAllFirstWritten : LinesTask → ℕ → (unread left written grown : Option (List ℕ)) → LineTellerValue → Type 0
IsAllFirstWritten task most unread left written grown t = IsAllWritten (HasTakenBelow task most) ready_of none_of unread left written grown t

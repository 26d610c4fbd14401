-- A report on JSON Lines that ends behind the last one of so many bad lines, where a line feed ends so many.
use Rattle.std.specs.Prelude.{◌≡◌, ◌<◌, ◌⊎◌, ℕ, List, ◌++◌, Option, length}
use Rattle.jx_ends.specs.declared.exit.Exit.{Exit}
use Rattle.jx_ends.specs.declared.exit.Exit.TheVariants.{Bad}
use Rattle.jx_drive.specs.Reports.{ReportsAll, WroteDue}
use Rattle.jx_ndjson_report.specs.declared.task.LinesTask.{LinesTask}
use Rattle.jx_ndjson_report.specs.Output.{IsDue, LinesOutput, bad_of}

-- due of the bytes of an input, where fewer than so many of the lines that a line feed ends are bad
abbrev pub IsDueBelow : LinesTask → ℕ → List ℕ → List ℕ → Type 0
IsDueBelow task most input output = (due : IsDue task input output) × (length (bad_of task.blanks due.answers) < most)

-- the same where so many are bad: what is due of a beginning that has so many, whatever follows it
pub record IsDueOfMost (task : LinesTask) (most : ℕ) (input output : List ℕ) : Type 0 where
  pub front : List ℕ
  pub rest : List ℕ
  pub cut : input ≡ front ++ rest
  pub due : IsDue task front output
  pub full : length (bad_of task.blanks due.answers) ≡ most

abbrev pub IsFirstDue : LinesTask → ℕ → List ℕ → List ℕ → Type 0
IsFirstDue task most input output = IsDueBelow task most input output ⊎ IsDueOfMost task most input output

-- the whole output and the status, where fewer than so many of the lines that a line feed ends are bad
abbrev pub OutputBelow : LinesTask → ℕ → List ℕ → List ℕ → Exit → Type 0
OutputBelow task most input output exit = LinesOutput task input output exit × ((due : List ℕ) × IsDueBelow task most input due)

-- the reader gave all that it had, and the writer got the whole output; or the writer got the report on so many bad lines, and
-- nothing else of the input counts
abbrev pub ReportsFirst : LinesTask → ℕ → (unread left written grown : Option (List ℕ)) → Exit → Type 0
ReportsFirst task most unread left written grown exit =
    ReportsAll (OutputBelow task most) unread left written grown exit ⊎ ((exit ≡ Bad) × WroteDue (IsDueOfMost task most) unread left written grown)

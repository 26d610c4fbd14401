-- A report from a reader to a writer, by what is due of an input, and by the whole output for it.
use Rattle.std.specs.Prelude.{◌⊎◌, ℕ, List, ◌++◌, Option}
use Rattle.std.specs.Io.KnownBytes.{Appends, Consumes}
use Rattle.jx_ends.specs.declared.exit.Exit.{Exit}
use Rattle.jx_ends.specs.Ends.{ReadsToEnd, AppendsBeginning}

abbrev pub Dues : Type 1
Dues = List ℕ → List ℕ → Type 0

abbrev pub Outputs : Type 1
Outputs = List ℕ → List ℕ → Exit → Type 0

-- the reader gave all that it had, and the writer got the whole output for it
pub record ReportsAll (IsOutput : Outputs) (unread left written grown : Option (List ℕ)) (exit : Exit) : Type 0 where
  pub text : List ℕ
  pub output : List ℕ
  pub read : ReadsToEnd unread left text
  pub answer : IsOutput text output exit
  pub wrote : Appends written grown output

-- the writer got what is due of the bytes that were read
pub record WroteDue (IsDue : Dues) (unread left written grown : Option (List ℕ)) : Type 0 where
  pub text : List ℕ
  pub output : List ℕ
  pub read : Consumes unread left text
  pub due : IsDue text output
  pub wrote : Appends written grown output

-- the writer got what is due of a beginning of the bytes that were read: whole lines
pub record WroteLines (IsDue : Dues) (unread left written grown : Option (List ℕ)) : Type 0 where
  pub text : List ℕ
  pub more : List ℕ
  pub output : List ℕ
  pub read : Consumes unread left (text ++ more)
  pub due : IsDue text output
  pub wrote : Appends written grown output

-- the writer got a beginning of an output for the bytes that were read, and not all
pub record WroteInPart (IsBegun : Dues) (unread left written grown : Option (List ℕ)) : Type 0 where
  pub text : List ℕ
  pub output : List ℕ
  pub read : Consumes unread left text
  pub of : IsBegun text output
  pub wrote : AppendsBeginning written grown output

-- the output that is due of the bytes, or the whole output for them
abbrev pub DueOrWhole : Dues → Outputs → Dues
DueOrWhole IsDue IsOutput text output = IsDue text output ⊎ ((exit : Exit) × IsOutput text output exit)

-- How what is due is written batch by batch, by what a reporter has taken and by what waits.
use Rattle.std.specs.Prelude.{◌≡◌, ℕ, List, [], ◌++◌, Option}
use Rattle.std.specs.Io.KnownBytes.{Appends, Consumes}
use Rattle.jx_ends.specs.Ends.{ReadsToEnd, AppendsBeginning}
use Rattle.jx_drive.specs.Reports.{Dues}

-- the bytes that were taken, and those that were written of them
abbrev pub Takings : Type 0 → Type 1
Takings T = List ℕ → List ℕ → T → Type 0

-- a batch was taken, and what was due then was written; the messages led from one state to another
pub record WritesOn {T : Type 0} (HadTaken HasTaken : Takings T) (ready told : T → List ℕ) (written grown : Option (List ℕ)) (batch : List ℕ) (old new : T) : Type 0 where
  pub more : List ℕ
  pub wrote : Appends written grown more
  pub takes : (text given : List ℕ) → HadTaken text given old → HasTaken (text ++ batch) (given ++ more) new
  pub none_wait : ready new ≡ []
  pub none_told : told new ≡ []

-- a batch was taken, and a beginning of what was due then was written
pub record WritesPart {T : Type 0} (HasTaken : Takings T) (IsBegun : Dues) (written grown : Option (List ℕ)) (batch : List ℕ) (old : T) : Type 0 where
  pub more : List ℕ
  pub wrote : AppendsBeginning written grown more
  pub begun : (text given : List ℕ) → HasTaken text given old → IsBegun (text ++ batch) (given ++ more)

-- all that was read was taken, and all that is due of it was written
pub record IsWritten {T : Type 0} (HasTaken : Takings T) (ready told : T → List ℕ) (unread left written grown : Option (List ℕ)) (t : T) : Type 0 where
  pub text : List ℕ
  pub given : List ℕ
  pub read : Consumes unread left text
  pub wrote : Appends written grown given
  pub taken : HasTaken text given t
  pub none_wait : ready t ≡ []
  pub none_told : told t ≡ []

-- and nothing is left to read
pub record IsAllWritten {T : Type 0} (HasTaken : Takings T) (ready told : T → List ℕ) (unread left written grown : Option (List ℕ)) (t : T) : Type 0 where
  pub text : List ℕ
  pub given : List ℕ
  pub read : ReadsToEnd unread left text
  pub wrote : Appends written grown given
  pub taken : HasTaken text given t
  pub none_wait : ready t ≡ []
  pub none_told : told t ≡ []

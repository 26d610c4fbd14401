-- What one input is answered with, however it is read.
use Rattle.std.proofs.Common.{◌≡◌, ℕ, List, subst}
use Rattle.std.specs.Prelude.{Option, Result, Ok, Err, IfOk, IfErr}
use Rattle.jx_task.specs.declared.command.Command.{Command}
use Rattle.jx_parallel.specs.Offsets.{IsContent}
use Rattle.jx_files.specs.declared.file_fault.FileFault.{FileFault}
use Rattle.jx_files.specs.declared.file_fault.FileFault.TheVariants.{Folder, Open, Read, Memory, Pieces, NoPointer, PointerOrFile}
use Rattle.jx_files.specs.declared.reason.Reason.{Reason}
use Rattle.jx_files.specs.declared.reports.Answer.{Answer}
use Rattle.jx_files.specs.Files.{Ways, IsFaultAt, IsFaultOf, MayBeShared, by_offsets, no_memory, not_answered, not_read_there}
use Rattle.jx_files.specs.inside.Parts.{IsAnsweredBy, IsAnsweredFrom, IsAnsweredThere, IsFaultThere}

-- what holds of a value, or of an error, and what follows from it
pub of_value : {T E : Type 0} (A B : T → Type 0) (result : Result T E) → IfOk result A → ((x : T) → A x → B x) → IfOk result B
of_value A B (Ok x) holds goes = goes x holds
of_value A B (Err e) holds goes = holds

pub of_error : {T E : Type 0} (A B : E → Type 0) (result : Result T E) → IfErr result A → ((e : E) → A e → B e) → IfErr result B
of_error A B (Ok x) holds goes = holds
of_error A B (Err e) holds goes = goes e holds

module _ (ways : Ways) (command : Command) (input : ways.Input) where
  -- read at offsets
  pub answered_there : MayBeShared ways command input → (known : Option (List ℕ)) → known ≡ ways.remaining input → (answer : Answer) → IsAnsweredThere command known answer
      → IsAnsweredFrom ways command input answer
  answered_there may known same answer there = record {
    output = there.output;
    answered = by_offsets there.text may (subst (λ (k : Option (List ℕ)). IsContent k there.text) same there.whole) there.answer_is;
    shown = there.shown;
  }

  pub fault_there : MayBeShared ways command input → (may_fail : Reason → Type 0) → ((reason : Reason) → may_fail reason → ways.may_fail input reason)
      → (fault : FileFault) → IsFaultThere may_fail fault → IsFaultOf ways command input fault
  fault_there may may_fail goes Folder there = absurd there
  fault_there may may_fail goes (Open reason) there = absurd there
  fault_there may may_fail goes (Read reason) there = not_read_there reason may (goes reason there)
  fault_there may may_fail goes Memory there = no_memory
  fault_there may may_fail goes Pieces there = absurd there
  fault_there may may_fail goes NoPointer there = absurd there
  fault_there may may_fail goes PointerOrFile there = absurd there

  -- of a word
  pub answered_on : (word : List ℕ) → ways.opens word (Ok input) → (answer : Answer) → IsAnsweredFrom ways command input answer → IsAnsweredBy ways command word answer
  answered_on word opened answer there = record {
    output = there.output;
    answered = record { input = input; opened = opened; answered = there.answered };
    shown = there.shown;
  }

  pub fault_on : (word : List ℕ) → ways.opens word (Ok input) → (fault : FileFault) → IsFaultOf ways command input fault → IsFaultAt ways command word fault
  fault_on word opened fault there = not_answered fault input opened there

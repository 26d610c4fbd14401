-- Elements of a text sequence, and the parts of a run, whose bytes stand further on.
use Rattle.std.specs.Prelude.{◌≡◌, ℕ, ◌+◌, ◌≤◌, List, length, Some, slice_get}
use Rattle.jx_lex.specs.declared.alphabet.lex_exit.LexExit.{LexExit}
use Rattle.jx_lex.specs.declared.alphabet.lex_exit.LexExit.TheVariants as exit
use Rattle.jx_reduce.specs.declared.table.expect.Expect.{Expect}
use Rattle.jx_reduce.specs.declared.table.holder.Holder.{Holder}
use Rattle.jx_reduce.specs.Structure.{StructureValue, answer, SpansIn}
use Rattle.jx_reduce.specs.Shift.{shifted}
use Rattle.jx_run.specs.declared.runs.transition.Transition.{Transition}
use Rattle.jx_run.specs.declared.sequences.element_verdict.ElementVerdict.{ElementVerdict}
use Rattle.jx_run.specs.declared.sequences.element_verdict.ElementVerdict.TheVariants as element
use Rattle.jx_run.specs.declared.sequences.element_verdict.JudgedElement.{JudgedElement}
use Rattle.jx_run.specs.declared.texts.verdict.Refusal.{Refusal}
use Rattle.jx_run.specs.declared.texts.verdict.Refusal.TheVariants.{Stopped, Truncated, TooDeep, RepeatedName}
use Rattle.jx_run.specs.ReaderInside.{offset_at}
use Rattle.jx_run.specs.Tree.{span}

-- offsets that fit a word grow by so many bytes

abbrev pub moved_refusal : ℕ → Refusal → Refusal
moved_refusal by (Stopped at) = Stopped (offset_at by at)
moved_refusal by Truncated = Truncated
moved_refusal by (TooDeep at) = TooDeep (offset_at by at)
moved_refusal by (RepeatedName at) = RepeatedName (offset_at by at)

abbrev pub moved_verdict : ℕ → ElementVerdict → ElementVerdict
moved_verdict by element.Accepted = element.Accepted
moved_verdict by (element.Refused refusal) = element.Refused (moved_refusal by refusal)
moved_verdict by element.MayBeCut = element.MayBeCut
moved_verdict by element.Unmarked = element.Unmarked

abbrev pub moved : ℕ → JudgedElement → JudgedElement
moved by e = record { span = span (offset_at by e.span.start) (offset_at by e.span.end); verdict = moved_verdict by e.verdict }

abbrev pub moved_exit : ℕ → LexExit → LexExit
moved_exit by (exit.State s) = exit.State s
moved_exit by (exit.Fault at) = exit.Fault (offset_at by at)

abbrev pub moved_transition : ℕ → Transition → Transition
moved_transition by w = record { exit = moved_exit by w.exit; structure = w.structure }

-- the structure of the same tokens so many bytes further on
pub record IsMoved (by : ℕ) (old new : StructureValue) : Type 0 where
  pub depth : new.depth ≡ old.depth
  pub answers : (expect : Expect) (holders : List Holder) → length holders ≤ old.depth → answer new expect holders ≡ shifted by (answer old expect holders)
  pub offsets : (low high : ℕ) → SpansIn low high old → SpansIn (by + low) (by + high) new

-- it stands in this place
pub record IsMovedAt (by : ℕ) (news : List StructureValue) (at : ℕ) (old : StructureValue) : Type 0 where
  pub form : StructureValue
  pub there : slice_get news at ≡ Some form
  pub moved : IsMoved by old form

-- each structure is moved, and stands where it stood
abbrev pub AreMoved : ℕ → List StructureValue → List StructureValue → Type 0
AreMoved by olds news = (at : ℕ) (old : StructureValue) → slice_get olds at ≡ Some old → IsMovedAt by news at old

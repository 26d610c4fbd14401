-- The results of calls on a stream of values.
use Rattle.std.specs.Prelude.{◌≡◌, ℕ, ◌+◌, List, [], ◌∷◌, ◌++◌, length, Bool, true, false, Option, None, Some, Result, Ok, Err}
use Rattle.jx_lex.specs.declared.kind.Kind.{Kind}
use Rattle.jx_lex.specs.declared.kind.Kind.TheVariants.{Object, Array, String, Number, True, False, Null}
use Rattle.jx_run.specs.declared.texts.settings.Settings.{Settings}
use Rattle.jx_run.specs.declared.texts.verdict.Refusal.{Refusal}
use Rattle.jx_run.specs.declared.texts.verdict.Verdict.{Verdict}
use Rattle.jx_run.specs.declared.texts.verdict.Verdict.TheVariants.{Accepted, Refused}
use Rattle.jx_run.specs.Settings.{IsDocumentBy, JudgedBy}
use Rattle.jx_run.specs.Tree.{Tree}
use Rattle.jx_index.specs.declared.find_fault.FindFault.{FindFault}
use Rattle.jx_index.specs.declared.find_fault.FindFault.TheVariants.{NotAContainer}
use Rattle.jx_index.specs.declared.finder.Found.{Found}
use Rattle.jx_index.specs.Found.{found_of}
use Rattle.jx_index.specs.Leads.{led}
use Rattle.jx_index.specs.Pointers.{tokens}
use Rattle.jx_find.specs.declared.finder.Finder.{Finder}
use Rattle.jx_find.specs.Finder.{HasFed}
use Rattle.jx_each.specs.Due.{IsDue}
use Rattle.jx_each.specs.Each.{EachValue, HasTaken}
use Rattle.jx_c.specs.Compact.{IsPlaced}
use Rattle.jx_c.specs.LookUps.{shown_look_up}
use Rattle.jx_c.specs.declared.texts.look_up.JxAnswer.{JxAnswer}
use Rattle.jx_c.specs.declared.texts.look_up.LookUp.TheVariants.{Lost, NoText}
use Rattle.jx_c.specs.declared.streams.stream.JxOutcome.{JxOutcome}

-- ---- what a stream was fed

-- the maker of the lines, and the look-up beside it where the pointer has tokens
pub record StreamValue : Type 0 where
  pub each : EachValue
  pub sought : Option Finder

-- a look-up of the pointer was fed these bytes, or the pointer leads to the root
abbrev pub HasSought : Settings → List ℕ → List ℕ → Option Finder → Type 0
HasSought settings pointer bytes (Some finder) = HasFed settings (pointer ∷ []) bytes finder
HasSought settings pointer bytes None = pointer ≡ []

-- by settings and a pointer, it was fed these bytes since it was made, and these lines of them were taken
pub record HasStreamed (settings : Settings) (pointer bytes given : List ℕ) (s : StreamValue) : Type 0 where
  pub settings_are : s.each.reader.settings ≡ settings
  pub taken : HasTaken pointer bytes given s.each
  pub sought : HasSought settings pointer bytes s.sought

-- how many bytes it was fed
abbrev pub end_of : StreamValue → ℕ
end_of s = s.each.reader.start + s.each.reader.count

-- a stream that was fed no byte
abbrev pub IsBegun : Settings → List ℕ → Option StreamValue → Type 0
IsBegun settings pointer held = (s : StreamValue) × (held ≡ Some s) × HasStreamed settings pointer [] [] s

-- after any input that it was fed, now it was fed these bytes
abbrev pub IsFed : StreamValue → List ℕ → Option StreamValue → Type 0
IsFed old bytes held =
    (s : StreamValue) × (held ≡ Some s) × ((settings : Settings) (pointer input given : List ℕ) → HasStreamed settings pointer input given old → HasStreamed settings pointer (input ++ bytes) given s)

-- with the lines that were taken before, those that wait are what is due of the bytes that it was fed
abbrev pub AreDue : StreamValue → List ℕ → Type 0
AreDue s lines = (settings : Settings) (pointer input given : List ℕ) → HasStreamed settings pointer input given s → IsDue settings pointer input (given ++ lines)

-- the lines that waited stand at the front of the buffer, all that is due was taken with them, and none waits
pub record IsTaken (old : StreamValue) (before after : List ℕ) (size : ℕ) (held : Option StreamValue) : Type 0 where
  pub placed : IsPlaced old.each.ready before after size
  pub due : AreDue old old.each.ready
  pub s : StreamValue
  pub holds : held ≡ Some s
  pub none_wait : s.each.ready ≡ []
  pub gives : (settings : Settings) (pointer input given : List ℕ) → HasStreamed settings pointer input given old → HasStreamed settings pointer input (given ++ old.each.ready) s

-- ---- where the pointer leads

-- an answer without the value
abbrev pub outcome_of : JxAnswer → JxOutcome
outcome_of answer = record { at = answer.at; kind = answer.outcome }

abbrev pub outcome_of_fault : FindFault → JxOutcome
outcome_of_fault fault = outcome_of (shown_look_up (Lost fault))

abbrev pub outcome_of_refusal : Refusal → JxOutcome
outcome_of_refusal refusal = outcome_of (shown_look_up (NoText refusal))

-- of a value to which so many tokens lead: found, where it is an array or an object
abbrev pub outcome_of_kind : Kind → ℕ → JxOutcome
outcome_of_kind Object n = record { at = 0; kind = 0 }
outcome_of_kind Array n = record { at = 0; kind = 0 }
outcome_of_kind String n = outcome_of_fault (NotAContainer n)
outcome_of_kind Number n = outcome_of_fault (NotAContainer n)
outcome_of_kind True n = outcome_of_fault (NotAContainer n)
outcome_of_kind False n = outcome_of_fault (NotAContainer n)
outcome_of_kind Null n = outcome_of_fault (NotAContainer n)

-- of what so many tokens lead to
abbrev pub outcome_of_found : Result Found FindFault → ℕ → JxOutcome
outcome_of_found (Ok found) n = outcome_of_kind found.kind n
outcome_of_found (Err fault) n = outcome_of_fault fault

-- of the root
abbrev pub outcome_of_root : Bool → JxOutcome
outcome_of_root true = record { at = 0; kind = 0 }
outcome_of_root false = outcome_of_fault (NotAContainer 0)

-- in a text, that of what the pointer leads to in its tree
abbrev pub LeadsTo : Settings → List ℕ → List ℕ → ℕ → JxOutcome → Type 0
LeadsTo settings pointer text n outcome = (tree : Tree) × IsDocumentBy settings 0 text tree × (outcome ≡ outcome_of_found (found_of (led text tree (tokens pointer))) n)

-- by the verdict: of bytes that are refused, the refusal
abbrev pub IsOutcomeBy : Settings → List ℕ → List ℕ → Verdict → JxOutcome → Type 0
IsOutcomeBy settings pointer bytes Accepted outcome = LeadsTo settings pointer bytes (length (tokens pointer)) outcome
IsOutcomeBy settings pointer bytes (Refused refusal) outcome = outcome ≡ outcome_of_refusal refusal

abbrev pub IsOutcomeOf : Settings → List ℕ → List ℕ → JxOutcome → Type 0
IsOutcomeOf settings pointer bytes outcome = (verdict : Verdict) × JudgedBy settings 0 bytes verdict × IsOutcomeBy settings pointer bytes verdict outcome

-- of whatever settings, pointer and bytes the stream is
abbrev pub IsOutcomeIn : StreamValue → JxOutcome → Type 0
IsOutcomeIn s outcome = (settings : Settings) (pointer input given : List ℕ) → HasStreamed settings pointer input given s → IsOutcomeOf settings pointer input outcome

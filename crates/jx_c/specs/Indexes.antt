-- The results of calls on indexes.
use Rattle.std.specs.Prelude.{◌≡◌, ℕ, ◌≤◌, List, Option, None, Some, Result, Ok, MatchResult, Vec, drop, length, slice_get}
use Rattle.std.specs.List.{AllZip}
use Rattle.std.specs.declared.alloc.Global.{Global}
use Rattle.jx_run.specs.declared.texts.settings.Settings.{Settings}
use Rattle.jx_run.specs.declared.texts.verdict.Refusal.{Refusal}
use Rattle.jx_run.specs.declared.texts.verdict.Verdict.{Verdict}
use Rattle.jx_run.specs.declared.texts.verdict.Verdict.TheVariants.{Accepted, Refused}
use Rattle.jx_index.specs.ByNames.{IsVerdictBy}
use Rattle.jx_index.specs.Found.{IsFoundBy}
use Rattle.jx_index.specs.Indexed.{IndexedValue}
use Rattle.jx_index.specs.Settled.{IsIndexBy}
use Rattle.jx_index.specs.declared.find_fault.FindFault.{FindFault}
use Rattle.jx_index.specs.declared.finder.Found.{Found}
use Rattle.jx_index.specs.declared.row.Row.{Row}
use Rattle.jx_c.specs.LookUps.{IsAnswerOf, IsLookUp, IsSpelt}
use Rattle.jx_c.specs.Rows.{shown_row}
use Rattle.jx_c.specs.Verdict.{shown}
use Rattle.jx_c.specs.declared.texts.all.JxPointer.{JxPointer}
use Rattle.jx_c.specs.declared.texts.look_up.JxAnswer.{JxAnswer}
use Rattle.jx_c.specs.declared.texts.look_up.LookUp.{LookUp}
use Rattle.jx_c.specs.declared.shapes.places.JxRow.{JxRow}
use Rattle.jx_c.specs.declared.shapes.verdict.JxVerdict.{JxVerdict}

-- the text is accepted by settings, and this is its index
abbrev pub IsIndexOf : Settings → List ℕ → IndexedValue → Type 0
IsIndexOf settings text index = IsVerdictBy settings text Accepted × IsIndexBy settings text index

-- by the verdict: the index of the text, or none
abbrev pub IsHeldBy : Settings → List ℕ → Option IndexedValue → Verdict → Type 0
IsHeldBy settings text held Accepted = (index : IndexedValue) × (held ≡ Some index) × IsIndexBy settings text index
IsHeldBy settings text held (Refused refusal) = held ≡ None

-- the verdict by settings on the text, and by it what is kept
abbrev pub IsMadeBy : Settings → List ℕ → Option IndexedValue → JxVerdict → Type 0
IsMadeBy settings text held told = (verdict : Verdict) × IsVerdictBy settings text verdict × (told ≡ shown verdict) × IsHeldBy settings text held verdict

-- the answer to the pointer in the text, of whatever text and settings the index is
abbrev pub IsLookUpIn : IndexedValue → List ℕ → LookUp → Type 0
IsLookUpIn index pointer look_up = (settings : Settings) (text : List ℕ) → IsIndexOf settings text index → IsLookUp settings text pointer look_up

-- the same as C sees it
abbrev pub IsAnswerIn : IndexedValue → List ℕ → JxAnswer → Type 0
IsAnswerIn index pointer told_as = (settings : Settings) (text : List ℕ) → IsIndexOf settings text index → IsAnswerOf settings text pointer told_as

abbrev shown_if_any : Option Row → Option JxRow
shown_if_any None = None
shown_if_any (Some row) = Some (shown_row row)

-- the row with this number, if there is one
abbrev pub row_at : IndexedValue → ℕ → Option JxRow
row_at index number = shown_if_any (slice_get index.rows number)

-- ---- many pointers in one text

-- the answer was found for each of them that is a pointer
abbrev pub AreFound : Settings → List ℕ → List JxPointer → List (Result Found FindFault) → Type 0
AreFound settings text = AllZip (λ (pointer : JxPointer) (found : Result Found FindFault). IsSpelt pointer.bytes.now → IsFoundBy settings text pointer.bytes.now (Ok found))

-- the result of reading the text for them, or the refusal
abbrev pub IsReadFor : Settings → List ℕ → List JxPointer → Result (Vec (Result Found FindFault) Global) Refusal → Type 0
IsReadFor settings text pointers read = MatchResult read (λ all. AreFound settings text pointers all.items) (λ refusal. IsVerdictBy settings text (Refused refusal))

-- each answer for which there is room is that to the pointer of its number, and the rest of the buffer is as it was
pub record AreAnswersOf (settings : Settings) (text : List ℕ) (pointers : List JxPointer) (old new : List JxAnswer) : Type 0 where
  pub long : length new ≡ length old
  pub told : (n : ℕ) (pointer : JxPointer) (answer : JxAnswer) → slice_get pointers n ≡ Some pointer → slice_get new n ≡ Some answer
      → IsAnswerOf settings text pointer.bytes.now answer
  pub rest : (n : ℕ) → length pointers ≤ n → drop n new ≡ drop n old

-- A reader of texts as contracts see it, and what it has told.
use Rattle.std.specs.Prelude.{◌≡◌, ℕ, ◌+◌, ◌==◌, Bool, true, false, List, [], ◌∷◌, ◌++◌, filter, length, not, Option, Some, None, if◌then◌else◌}
use Rattle.std.specs.List.{list_all}
use Rattle.jx_lex.specs.Uneventful.{is_blank}
use Rattle.jx_run.specs.declared.texts.settings.FrontMark.TheVariants.{Refused}
use Rattle.jx_run.specs.declared.texts.settings.NameRule.TheVariants.{Any}
use Rattle.jx_run.specs.declared.texts.settings.Settings.{Settings}
use Rattle.jx_run.specs.declared.texts.verdict.Verdict.{Verdict}
use Rattle.jx_run.specs.Laws.{verdict_of}
use Rattle.jx_run.specs.Reader.{HasRead, ReaderValue}
use Rattle.jx_run.specs.Reading.{read_text}
use Rattle.jx_texts.specs.declared.judged_text.JudgedText.{JudgedText}
use Rattle.jx_texts.specs.declared.text_reader.Stage.{Stage}
use Rattle.jx_texts.specs.declared.text_reader.Stage.TheVariants.{Between, Closed, Bare, Lost}
use Rattle.jx_texts.specs.Texts.{AreBlanks, Ended, HasEnded, has_fault, is_border, last_text, opens}

pub record TextReaderValue : Type 0 where
  -- the reader of the text that goes on
  pub reader : ReaderValue
  -- its kind
  pub stage : Stage

-- this depth alone is set
abbrev pub plain : ℕ → Settings
plain limit = record { depth = limit; mark = Refused; names = Any }

-- the byte that ends what this one begins
abbrev pub closing : ℕ → ℕ
closing byte = if byte == 0x5b then 0x5d else if byte == 0x7b then 0x7d else 0x22

-- whatever follows the bytes, none of their beginnings is a text that has ended
abbrev pub EndsNowhere : ℕ → ℕ → List ℕ → Type 0
EndsNowhere limit from bytes = (more text behind : List ℕ) → HasEnded limit from (bytes ++ more) text behind → ⊥

-- none of these bytes is a border
abbrev pub have_no_border : List ℕ → Bool
have_no_border bytes = list_all (λ b. not (is_border b)) bytes

-- by its stage, facts on the bytes of the text that goes on
abbrev pub GoesOn : ℕ → ℕ → ℕ → List ℕ → Stage → Type 0
GoesOn limit from b rest Between = ⊥
GoesOn limit from b rest (Closed byte) = (opens b ≡ true) × (byte ≡ closing b) × ((text behind : List ℕ) → HasEnded limit from (b ∷ rest) text behind → ⊥)
GoesOn limit from b rest Bare = (opens b ≡ false) × (have_no_border (b ∷ rest) ≡ true)
GoesOn limit from b rest Lost = ⊥

abbrev pub listed : Option JudgedText → List JudgedText
listed None = []
listed (Some told) = told ∷ []

-- the verdict so far
abbrev pub verdict_now : ℕ → ℕ → List ℕ → Verdict
verdict_now limit from bytes = verdict_of (read_text limit from bytes)

-- the text that goes on, as the last one
abbrev pub text_now : ℕ → ℕ → List ℕ → JudgedText
text_now limit from bytes = last_text from bytes (verdict_now limit from bytes)

-- where a reader stands in the bytes behind the texts that have ended, and what it has told
pub data Stands (limit left : ℕ) (ended : List JudgedText) : List ℕ → List JudgedText → ReaderValue → Stage → Type 0 where
  -- between two texts
  between : {rest : List ℕ} {reader : ReaderValue} → AreBlanks rest → reader.start ≡ left + length rest → HasRead [] reader → Stands limit left ended rest ended reader Between
  -- in a text
  inside : {bytes : List ℕ} {reader : ReaderValue} {stage : Stage} (gap rest : List ℕ) (b : ℕ) → bytes ≡ gap ++ (b ∷ rest) → AreBlanks gap → is_blank b ≡ false
      → reader.start ≡ left + length gap → HasRead (b ∷ rest) reader → GoesOn limit (left + length gap) b rest stage
      → has_fault (text_now limit (left + length gap) (b ∷ rest)) ≡ false
      → Stands limit left ended bytes ended reader stage
  -- in bytes that are not valid JSON, whose fault it has told once it was met
  lost : {bytes : List ℕ} {reader : ReaderValue} (gap rest : List ℕ) (b : ℕ) → bytes ≡ gap ++ (b ∷ rest) → AreBlanks gap → is_blank b ≡ false
      → reader.start ≡ left + length gap → HasRead (b ∷ rest) reader → EndsNowhere limit (left + length gap) (b ∷ rest)
      → Stands limit left ended bytes (ended ++ filter has_fault (text_now limit (left + length gap) (b ∷ rest) ∷ [])) reader Lost

-- it has read these bytes, which stand from an offset on, and told the texts that have ended, and a fault
pub record HasTold (limit at : ℕ) (bytes : List ℕ) (told : List JudgedText) (r : TextReaderValue) : Type 0 where
  pub by : r.reader.settings ≡ plain limit
  pub ended : List JudgedText
  pub left : ℕ
  pub rest : List ℕ
  pub are_ended : Ended limit at bytes ended left rest
  pub stands : Stands limit left ended rest told r.reader r.stage

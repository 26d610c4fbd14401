-- The steps of a reader of texts.
use Rattle.std.specs.Prelude.{◌≡◌, ℕ, ◌+◌, Bool, true, false, List, [], ◌∷◌, ◌++◌, length, not, ◌==◌, if◌then◌else◌}
use Rattle.std.specs.List.{list_all}
use Rattle.jx_lex.specs.Uneventful.{is_blank}
use Rattle.jx_run.specs.Reader.{HasRead, ReaderValue}
use Rattle.jx_texts.specs.declared.judged_text.JudgedText.{JudgedText}
use Rattle.jx_texts.specs.declared.text_reader.Stage.{Stage}
use Rattle.jx_texts.specs.declared.text_reader.Stage.TheVariants.{Between, Closed, Bare, Lost}
use Rattle.jx_texts.specs.Texts.{AreBlanks, Ended, HasEnded, opens}
use Rattle.jx_texts.specs.Reading.{TextReaderValue, closing, have_no_border, plain}

abbrev pub lacks : ℕ → List ℕ → Bool
lacks byte bytes = list_all (λ c. not (c == byte)) bytes

-- the next text begins with this byte, which is the last one, and was not read yet
pub record IsBegun (limit at : ℕ) (bytes : List ℕ) (told : List JudgedText) (byte : ℕ) (reader : ReaderValue) : Type 0 where
  pub by : reader.settings ≡ plain limit
  pub left : ℕ
  pub gap : List ℕ
  pub are_ended : Ended limit at bytes told left (gap ++ byte ∷ [])
  pub blanks : AreBlanks gap
  pub no_blank : is_blank byte ≡ false
  pub start : reader.start ≡ left + length gap
  pub read : HasRead [] reader

-- facts on bytes that were read, and not judged yet; they may be a whole text
abbrev pub IsFed : ℕ → ℕ → ℕ → List ℕ → Bool → Stage → Type 0
IsFed limit from b rest may_end Between = ⊥
IsFed limit from b rest may_end (Closed byte) =
    (opens b ≡ true) × (byte ≡ closing b) × ((text behind : List ℕ) → HasEnded limit from (b ∷ rest) text behind → (behind ≡ []) × (may_end ≡ true))
    × (may_end ≡ true → (w : List ℕ) × (rest ≡ w ++ closing b ∷ []))
IsFed limit from b rest may_end Bare = (may_end ≡ false) × (opens b ≡ false) × (have_no_border (b ∷ rest) ≡ true)
IsFed limit from b rest may_end Lost = ⊥

-- bytes were read, and not judged yet
pub record HasFed (limit at : ℕ) (bytes : List ℕ) (told : List JudgedText) (may_end : Bool) (r : TextReaderValue) : Type 0 where
  pub by : r.reader.settings ≡ plain limit
  pub left : ℕ
  pub gap : List ℕ
  pub b : ℕ
  pub rest : List ℕ
  pub are_ended : Ended limit at bytes told left (gap ++ (b ∷ rest))
  pub blanks : AreBlanks gap
  pub no_blank : is_blank b ≡ false
  pub start : r.reader.start ≡ left + length gap
  pub read : HasRead (b ∷ rest) r.reader
  pub fed : IsFed limit (left + length gap) b rest may_end r.stage

-- the stage in a text that begins with a byte
abbrev pub stage_of : ℕ → Stage
stage_of byte = if opens byte then Closed (closing byte) else Bare

-- bytes up to and with the first one that is this, or without any
pub data IsUpTo (byte : ℕ) : List ℕ → Bool → Type 0 where
  absent : {bytes : List ℕ} → lacks byte bytes ≡ true → IsUpTo byte bytes false
  present : {bytes : List ℕ} (front : List ℕ) → bytes ≡ front ++ byte ∷ [] → lacks byte front ≡ true → IsUpTo byte bytes true

-- bytes that may be read at once in a text, which may end there or not
abbrev pub FeedsOn : List ℕ → Bool → Stage → Type 0
FeedsOn more may_end Between = ⊥
FeedsOn more may_end (Closed byte) = IsUpTo byte more may_end
FeedsOn more may_end Bare = (may_end ≡ false) × (have_no_border more ≡ true)
FeedsOn more may_end Lost = ⊥

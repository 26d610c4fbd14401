-- A stream of JSON texts, one behind another: which of them have ended, and what the last one is.
use Rattle.std.specs.Prelude.{◌≡◌, ℕ, ◌+◌, Bool, true, false, ◌||◌, ◌==◌, List, [], ◌∷◌, ◌++◌, filter, length, if◌then◌else◌}
use Rattle.std.specs.List.{list_all}
use Rattle.jx_lex.specs.Uneventful.{is_blank}
use Rattle.jx_run.specs.declared.texts.verdict.Verdict.{Verdict}
use Rattle.jx_run.specs.declared.texts.verdict.Verdict.TheVariants.{Accepted, Refused}
use Rattle.jx_run.specs.declared.texts.verdict.Refusal.TheVariants.{Stopped, Truncated, TooDeep, RepeatedName}
use Rattle.jx_run.specs.Text.{IsDocument}
use Rattle.jx_run.specs.Tree.{Tree, span}
use Rattle.jx_run.specs.Verdict.{Judged}
use Rattle.jx_texts.specs.declared.judged_text.JudgedText.{JudgedText}

-- ---- where a text ends

-- [, { and ": an array, an object and a string end by a byte of their own; numbers and literals do not
abbrev pub opens : ℕ → Bool
opens byte = byte == 0x5b || byte == 0x7b || byte == 0x22

-- the bytes that may follow a number or a literal directly: white space, [, { and "
abbrev pub is_border : ℕ → Bool
is_border byte = is_blank byte || opens byte

-- such a byte stands in front
abbrev pub has_border : List ℕ → Bool
has_border [] = false
has_border (b ∷ bytes) = is_border b

-- it ends by a byte of its own, or what follows it shows that it has ended
abbrev pub shows_end : List ℕ → List ℕ → Bool
shows_end [] behind = false
shows_end (b ∷ text) behind = if opens b then true else has_border behind

-- no white space in front, and none behind
pub record IsBare (text : List ℕ) : Type 0 where
  pub front : (b : ℕ) (rest : List ℕ) → text ≡ b ∷ rest → is_blank b ≡ false
  pub behind : (rest : List ℕ) (b : ℕ) → text ≡ rest ++ b ∷ [] → is_blank b ≡ false

-- in front of the bytes, which stand from an offset on, a text within the depth has ended, and the others are behind it
pub record HasEnded (limit from : ℕ) (bytes text behind : List ℕ) : Type 0 where
  pub whole : bytes ≡ text ++ behind
  pub bare : IsBare text
  pub tree : Tree
  pub is_text : IsDocument from text limit tree
  pub shows : shows_end text behind ≡ true

-- white space alone, perhaps none
abbrev pub AreBlanks : List ℕ → Type 0
AreBlanks bytes = list_all is_blank bytes ≡ true

-- ---- the texts of a stream

abbrev pub judged : ℕ → ℕ → Verdict → JudgedText
judged from to verdict = record { span = span from to; verdict = verdict }

-- behind white space
pub record NextHasEnded (limit at : ℕ) (bytes : List ℕ) (told : JudgedText) (end : ℕ) (behind : List ℕ) : Type 0 where
  pub gap : List ℕ
  pub tail : List ℕ
  pub text : List ℕ
  pub whole : bytes ≡ gap ++ tail
  pub blanks : AreBlanks gap
  pub ended : HasEnded limit (at + length gap) tail text behind
  pub end_is : end ≡ at + length gap + length text
  pub told_is : told ≡ judged (at + length gap) end Accepted

-- texts that have ended, one behind another, and the bytes behind them with their offset
pub data Ended (limit : ℕ) : ℕ → List ℕ → List JudgedText → ℕ → List ℕ → Type 0 where
  none : {at : ℕ} {bytes : List ℕ} → Ended limit at bytes [] at bytes
  one : {at end left : ℕ} {bytes behind rest : List ℕ} {told : JudgedText} {more : List JudgedText}
      → NextHasEnded limit at bytes told end behind → Ended limit end behind more left rest → Ended limit at bytes (told ∷ more) left rest

-- none has ended in the bytes
abbrev pub NoneHasEnded : ℕ → ℕ → List ℕ → Type 0
NoneHasEnded limit at bytes = (gap tail text behind : List ℕ) → bytes ≡ gap ++ tail → AreBlanks gap → HasEnded limit (at + length gap) tail text behind → ⊥

-- up to where a text was read that is the last one: to its fault, or to the end
abbrev pub read_to : Verdict → ℕ → ℕ
read_to Accepted end = end
read_to (Refused Truncated) end = end
read_to (Refused (Stopped at)) end = at
read_to (Refused (TooDeep at)) end = at
read_to (Refused (RepeatedName at)) end = at

abbrev pub last_text : ℕ → List ℕ → Verdict → JudgedText
last_text from bytes verdict = judged from (read_to verdict (from + length bytes)) verdict

-- the text that the bytes, in which none has ended, are by their end: none where they are white space alone
pub data Last (limit at : ℕ) : List ℕ → List JudgedText → Type 0 where
  no_text : {bytes : List ℕ} → AreBlanks bytes → Last limit at bytes []
  a_text : {bytes : List ℕ} (gap rest : List ℕ) (b : ℕ) (verdict : Verdict) → bytes ≡ gap ++ (b ∷ rest) → AreBlanks gap → is_blank b ≡ false
      → Judged (at + length gap) (b ∷ rest) limit verdict → Last limit at bytes (last_text (at + length gap) (b ∷ rest) verdict ∷ [])

-- the bytes, which stand from an offset on, as texts that have ended and the last one
pub record Divided (limit at : ℕ) (bytes : List ℕ) (ended last : List JudgedText) : Type 0 where
  pub left : ℕ
  pub rest : List ℕ
  pub are_ended : Ended limit at bytes ended left rest
  pub no_more : NoneHasEnded limit left rest
  pub is_last : Last limit left rest last

-- a fault, which stays whatever follows
abbrev pub is_fault : Verdict → Bool
is_fault (Refused (Stopped at)) = true
is_fault (Refused (TooDeep at)) = true
is_fault _ = false

abbrev pub has_fault : JudgedText → Bool
has_fault told = is_fault told.verdict

-- the texts of a whole stream
pub record AreTexts (limit at : ℕ) (bytes : List ℕ) (told : List JudgedText) : Type 0 where
  pub ended : List JudgedText
  pub last : List JudgedText
  pub divided : Divided limit at bytes ended last
  pub told_are : told ≡ ended ++ last

-- those that stay the same whatever follows the bytes
pub record AreSettled (limit at : ℕ) (bytes : List ℕ) (told : List JudgedText) : Type 0 where
  pub ended : List JudgedText
  pub last : List JudgedText
  pub divided : Divided limit at bytes ended last
  pub told_are : told ≡ ended ++ filter has_fault last

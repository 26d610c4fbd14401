-- A reader of the elements of a text sequence as contracts see it, and what it has answered.
use Rattle.std.specs.Prelude.{◌≡◌, ℕ, Bool, List, take}
use Rattle.std.specs.List.{AllZip}
use Rattle.jx_run.specs.declared.sequences.element_verdict.JudgedElement.{JudgedElement}
use Rattle.jx_run.specs.declared.texts.settings.FrontMark.{FrontMark}
use Rattle.jx_run.specs.declared.texts.settings.Settings.{Settings}
use Rattle.jx_run.specs.ElementVerdict.{IsJudgedElement}
use Rattle.jx_run.specs.MarkAlone.{elements_by}
use Rattle.jx_run.specs.Reader.{ReaderValue}
use Rattle.jx_run.specs.SequenceRead.{AreRead}
use Rattle.jx_ndjson.specs.Elements.{ended_elements}

pub record ElementReaderValue : Type 0 where
  -- the rule on a byte order mark in front
  pub mark : FrontMark
  -- the first bytes of the input, where no record separator was read
  pub first : List ℕ
  -- the reader of the element that goes on, and whether its last byte may be followed by more of its value
  pub reader : ReaderValue
  pub open_ended : Bool

-- it has read these bytes of an input, from its start, and answered the elements that ended
pub record HasToldElements (settings : Settings) (input : List ℕ) (told : List JudgedElement) (r : ElementReaderValue) : Type 0 where
  pub mark : r.mark ≡ settings.mark
  -- all that ended, with a byte order mark alone in front
  pub judged : List JudgedElement
  pub read : AreRead settings.depth input judged r.reader r.open_ended
  pub answers : AllZip (IsJudgedElement settings.depth) (ended_elements settings.mark input) told
  pub first : r.reader.start ≡ 0 → r.first ≡ take 3 input

-- one verdict for each element of an input, in order
abbrev pub AreJudgedElements : Settings → List ℕ → List JudgedElement → Type 0
AreJudgedElements settings input answers = AllZip (IsJudgedElement settings.depth) (elements_by settings.mark input) answers

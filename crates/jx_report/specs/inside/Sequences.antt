-- A text sequence that is read batch by batch.
use Rattle.std.specs.Prelude.{◌≡◌, ℕ, List, ◌++◌, length, take, Vec}
use Rattle.std.specs.Global.{Global}
use Rattle.std.specs.List.{AllZip}
use Rattle.jx_run.specs.declared.sequences.element_verdict.JudgedElement.{JudgedElement}
use Rattle.jx_run.specs.declared.texts.settings.NameRule.TheVariants.{Unique}
use Rattle.jx_run.specs.declared.texts.settings.Settings.{Settings}
use Rattle.jx_run.specs.Elements.{elements}
use Rattle.jx_run.specs.ElementVerdict.{IsJudgedElement}
use Rattle.jx_run.specs.SequenceRead.{AreRead}
use Rattle.jx_answer.specs.Named.{IsNamed}
use Rattle.jx_report.specs.declared.sequence_reader.SequenceReader.{SequenceReader}

-- where names have to be unique, the text ends with the bytes that are kept of the last element, which stand where it
-- begins
abbrev pub IsHeld : List ℕ → SequenceReader → Type 0
IsHeld text sequence = sequence.settings.names ≡ Unique → (front : List ℕ) × (text ≡ front ++ sequence.last.items) × (length front ≡ sequence.reader.start)

-- each verdict that is kept is what the rule on names makes of one that was given, whatever follows the text
abbrev pub AreKept : Settings → List ℕ → List JudgedElement → SequenceReader → Type 0
AreKept settings text told sequence = (rest : List ℕ) → AllZip (IsNamed settings (text ++ rest)) told sequence.judged.items

-- the reader has read the elements of these bytes
pub record AreReadBy (settings : Settings) (text : List ℕ) (sequence : SequenceReader) : Type 0 where
  pub settings_are : sequence.settings ≡ settings
  pub told : List JudgedElement
  pub read : AreRead settings.depth text told sequence.reader sequence.open_ended
  pub kept : AreKept settings text told sequence
  pub held : IsHeld text sequence

-- the same of elements that have all ended
pub record AreEndedBy (settings : Settings) (text : List ℕ) (sequence : SequenceReader) : Type 0 where
  pub told : List JudgedElement
  pub ended : AllZip (IsJudgedElement settings.depth) (elements 0 text) told
  pub kept : AreKept settings text told sequence

-- the text begins with these bytes, which are as many as a byte order mark has, or all that there are
abbrev pub BeginsWith : Vec ℕ Global → List ℕ → Type 0
BeginsWith first text = first.items ≡ take 3 text

-- the elements of these bytes are read, and it shows whether a byte order mark stands in front of them
pub record IsSequenceRead (settings : Settings) (text : List ℕ) (sequence : SequenceReader) : Type 0 where
  pub first : BeginsWith sequence.first text
  pub read : AreReadBy settings text sequence

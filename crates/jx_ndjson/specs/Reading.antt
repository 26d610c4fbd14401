-- A reader of lines as contracts see it, and what it has answered.
use Rattle.std.specs.Prelude.{◌≡◌, ℕ, suc, ◌<◌, ◌≤◌, Bool, true, false, List, [], ◌∷◌, ◌++◌, drop, length, take, Option, Some, None}
use Rattle.std.specs.List.{AllZip}
use Rattle.jx_run.specs.declared.texts.settings.FrontMark.{FrontMark}
use Rattle.jx_run.specs.declared.texts.settings.FrontMark.TheVariants as on_mark
use Rattle.jx_run.specs.declared.texts.settings.Settings.{Settings}
use Rattle.jx_run.specs.Elements.{Part}
use Rattle.jx_run.specs.Reader.{HasRead, ReaderValue}
use Rattle.jx_run.specs.Reader as text_reader
use Rattle.jx_run.specs.Settings.{byte_order_mark}
use Rattle.jx_run.specs.Unclosed.{ends_open}
use Rattle.jx_ndjson.specs.declared.judged_line.JudgedLine.{JudgedLine}
use Rattle.jx_ndjson.specs.Answers.{IsAnswer, are_blanks, settings_at}
use Rattle.jx_ndjson.specs.Lines.{Line, line, is_line_feed, mark_length}
use Rattle.jx_ndjson.specs.Parts.{parts_by}

pub record LineReaderValue : Type 0 where
  -- the reader of the line that goes on
  pub reader : ReaderValue
  -- whether that line has white space alone so far, and whether its last byte may be followed by more of its value
  pub is_blank : Bool
  pub open_ended : Bool
  -- how many lines have ended
  pub ended : ℕ
  -- whether a byte order mark may begin or go on with the next byte
  pub in_front : Bool

-- the line that goes on has these bytes so far
pub record IsOpen (settings : Settings) (p : Part) (r : LineReaderValue) : Type 0 where
  pub reads_by : r.reader.settings ≡ settings_at settings p.at
  pub start : r.reader.start ≡ p.at
  pub read : HasRead p.bytes r.reader
  pub blank : r.is_blank ≡ are_blanks p.bytes
  pub opens : r.open_ended ≡ ends_open p.bytes

-- such parts as lines that have ended, counted from a number on
abbrev pub ended_from : ℕ → List Part → List Line
ended_from number [] = []
ended_from number (p ∷ parts) = line number p true ∷ ended_from (suc number) parts

-- it has read these bytes, which stand from an offset on, and answered the lines that ended
pub record HasReadLines (settings : Settings) (at : ℕ) (bytes : List ℕ) (told : List JudgedLine) (r : LineReaderValue) : Type 0 where
  pub ended : List Part
  pub last : Part
  pub parts : parts_by is_line_feed at bytes ≡ ended ++ last ∷ []
  pub answers : AllZip (IsAnswer settings) (ended_from 1 ended) told
  pub count : r.ended ≡ length ended
  pub goes_on : IsOpen settings last r

-- where a byte order mark may begin or go on, the input has its first bytes alone; else what follows changes nothing of it
abbrev pub IsPlace : FrontMark → List ℕ → Bool → Type 0
IsPlace mark input true = (mark ≡ on_mark.Ignored) × (length input < 3) × (input ≡ take (length input) byte_order_mark)
IsPlace mark input false = (mark_length mark input ≤ length input) × ((more : List ℕ) → mark_length mark (input ++ more) ≡ mark_length mark input)

-- it has read these bytes of an input, from its start, and answered the lines that ended
pub record HasTold (settings : Settings) (input : List ℕ) (told : List JudgedLine) (r : LineReaderValue) : Type 0 where
  pub reads : HasReadLines settings (mark_length settings.mark input) (drop (mark_length settings.mark input) input) told r
  pub place : IsPlace settings.mark input r.in_front

-- out of memory: every further slice fails
abbrev pub HasFailed : LineReaderValue → Type 0
HasFailed r = text_reader.HasFailed r.reader

abbrev pub listed : Option JudgedLine → List JudgedLine
listed None = []
listed (Some j) = j ∷ []

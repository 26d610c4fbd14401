-- The reading in a reader.
use Rattle.std.specs.Prelude.{◌≡◌, ℕ, ◌+◌, ◌-◌, ◌^◌, ◌<◌, min, List, [], Option, Some, None}
use Rattle.jx_lex.specs.declared.alphabet.lex_exit.LexExit.{LexExit}
use Rattle.jx_lex.specs.declared.alphabet.lex_exit.LexExit.TheVariants as exit
use Rattle.jx_lex.specs.declared.alphabet.mark.Mark.{Mark}
use Rattle.jx_lex.specs.Lex as lexical
use Rattle.jx_reduce.specs.KnownStack.{Known, IsFault, HasRead}
use Rattle.jx_reduce.specs.Read.{Reading}
use Rattle.jx_reduce.specs.declared.table.whole.Whole.{Whole}
use Rattle.jx_reduce.specs.declared.table.whole.Whole.TheVariants as whole
use Rattle.jx_run.specs.declared.texts.settings.FrontMark.{FrontMark}
use Rattle.jx_run.specs.declared.texts.settings.FrontMark.TheVariants.{Ignored}
use Rattle.jx_run.specs.declared.texts.settings.Settings.{Settings}
use Rattle.jx_run.specs.Reading.{TextReading, stopped, too_deep, at_exit}
use Rattle.jx_run.specs.Reader.{Outcome, in_front, reads, read_by, ReaderValue}
use Rattle.jx_run.specs.declared.readers.progress.Progress.{Progress}
use Rattle.jx_run.specs.declared.readers.progress.Progress.TheVariants.{Front, Going, Stopped, TooDeep, Failed}
use Rattle.jx_run.specs.declared.readers.reader.Reader.TheInside.{Inside}

abbrev pub outcome_at : Progress → Reading → Option Outcome
outcome_at (Front n) r = Some (in_front n)
outcome_at (Going s) r = Some (reads (at_exit (lexical.state s) r))
outcome_at (Stopped at) r = Some (reads (stopped at))
outcome_at (TooDeep at) r = Some (reads (too_deep at))
outcome_at Failed r = None

abbrev pub reader_of : Inside → ReaderValue
reader_of a = record { settings = a.settings; start = a.start; count = a.count; outcome = outcome_at a.progress a.stack.reading }

-- fewer bytes than a byte order mark's
abbrev pub IsCut : Progress → Type 0
IsCut (Front n) = n < 3
IsCut (Going s) = Unit {0}
IsCut (Stopped at) = Unit {0}
IsCut (TooDeep at) = Unit {0}
IsCut Failed = Unit {0}

-- the stack has read some tokens within the depth
pub record HasMarks (depth : ℕ) (stack : Known) : Type 0 where
  pub depth_is : stack.depth ≡ depth
  pub marks : List Mark
  pub read : HasRead marks stack

-- a byte order mark is ignored, and the stack has read none
pub record IsFresh (mark : FrontMark) (depth : ℕ) (stack : Known) : Type 0 where
  pub ignored : mark ≡ Ignored
  pub depth_is : stack.depth ≡ depth
  pub read : HasRead [] stack

-- unless out of memory, the stack is of use; it has met no fault while the reading goes on
abbrev pub IsOfUse : Progress → FrontMark → ℕ → Known → Type 0
IsOfUse (Front n) mark depth stack = IsFresh mark depth stack
IsOfUse (Going s) mark depth stack = HasMarks depth stack × (IsFault stack.reading → ⊥)
IsOfUse (Stopped at) mark depth stack = HasMarks depth stack
IsOfUse (TooDeep at) mark depth stack = HasMarks depth stack
IsOfUse Failed mark depth stack = Unit {0}

-- this far the reading of these bytes came, which stand from an offset on
pub record IsReadTo (settings : Settings) (start : ℕ) (bytes : List ℕ) (progress : Progress) (stack : Known) : Type 0 where
  pub outcome : outcome_at progress stack.reading ≡ Some (read_by settings.mark settings.depth start bytes)
  pub of_use : IsOfUse progress settings.mark settings.depth stack

pub record IsLawful (a : Inside) : Type 0 where
  pub fits : a.start + a.count < 2 ^ 64
  pub cut : IsCut a.progress
  pub of_use : IsOfUse a.progress a.settings.mark a.settings.depth a.stack

-- an offset in a slice that stands from another offset on
abbrev pub offset_at : ℕ → ℕ → ℕ
offset_at base at = min (base + at) (2 ^ 64 - 1)

-- where a scan of a slice led
abbrev pub settled : ℕ → Option LexExit → Whole → Progress
settled base x (whole.Stopped at) = Stopped (offset_at base at)
settled base x (whole.TooDeep at) = TooDeep (offset_at base at)
settled base (Some (exit.State s)) (whole.Went expect n) = Going s
settled base (Some (exit.Fault at)) (whole.Went expect n) = Stopped (offset_at base at)
settled base None (whole.Went expect n) = Failed

-- the same reading of bytes that stand further on
abbrev pub shifted : ℕ → TextReading → TextReading
shifted base (TextReading.went s expect holders) = TextReading.went s expect holders
shifted base (stopped at) = stopped (base + at)
shifted base (too_deep at) = too_deep (base + at)

-- every fault is at an offset that fits
abbrev pub IsLow : ℕ → TextReading → Type 0
IsLow base (TextReading.went s expect holders) = Unit {0}
IsLow base (stopped at) = base + at < 2 ^ 64
IsLow base (too_deep at) = base + at < 2 ^ 64

-- the reading of a slice, whose offsets count from its start, goes on after the stack's reading
pub record GoesOn (old : Known) (track : lexical.Track) (read : Reading) (base : ℕ) (progress : Progress) (new : Known) : Type 0 where
  pub of_use : (mark : FrontMark) → IsOfUse progress mark old.depth new
  pub outcome : IsLow base (at_exit track.exit read) → outcome_at progress new.reading ≡ Some (reads (shifted base (at_exit track.exit read)))

-- The meaning of the fields of a reader, for any values in them, and the bytes that it was fed.
use Rattle.std.specs.Prelude.{◌≡◌, ◌==◌, ◌%◌, ℕ, List, length, slice_index_or, if◌then◌else◌}
use Rattle.jx_lex.specs.Ordinal.{all_states}
use Rattle.jx_lex.specs.declared.alphabet.state.LexState.{LexState}
use Rattle.jx_lex.specs.declared.alphabet.state.LexState.TheVariants.{Gap}
use Rattle.jx_run.specs.ReaderInside.{IsReadTo}
use Rattle.jx_run.specs.declared.readers.progress.Progress.{Progress}
use Rattle.jx_run.specs.declared.readers.progress.Progress.TheVariants.{Front, Going, Stopped, TooDeep, Failed}
use Rattle.jx_run.specs.declared.texts.settings.Settings.{Settings}
use Rattle.jx_c.specs.Stack.{known_of}
use Rattle.jx_c.specs.declared.streams.reader.JxReader.{JxReader}

-- the lexical state of a number among all
abbrev pub state_in : ℕ → LexState
state_in n = slice_index_or all_states n Gap

abbrev pub progress_at : ℕ → LexState → ℕ → Progress
progress_at n s at =
    if n == 0 then Going s else (if n == 1 then Stopped at else (if n == 2 then TooDeep at else (if n == 3 then Front (at % 3) else Failed)))

abbrev pub progress_in : JxReader → Progress
progress_in r = progress_at r.progress (state_in r.state) r.at

-- it was started with these settings and fed these bytes, and it has read them
pub record HasRead (settings : Settings) (fed : List ℕ) (r : JxReader) : Type 0 where
  pub started : r.started ≡ 0x6A78_7265_6164_6572
  pub count : r.count ≡ length fed
  pub read : IsReadTo settings 0 fed (progress_in r) (known_of r.stack)

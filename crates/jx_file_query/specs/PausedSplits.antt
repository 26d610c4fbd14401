-- A split without its index.
use Rattle.std.specs.Prelude.{◌≡◌, ℕ, List, Option, None, Some, if◌then◌else◌}
use Rattle.jx_summary.specs.declared.span.Span.{Span}
use Rattle.jx_run.specs.declared.texts.settings.Settings.{Settings}
use Rattle.jx_file_index.specs.declared.index.Index.{Index}
use Rattle.jx_file_query.specs.Chunks.{chunk_at}
use Rattle.jx_file_query.specs.Known.{IsKnown}
use Rattle.jx_file_query.specs.declared.cutting.Parting.{Parting}
use Rattle.jx_file_query.specs.declared.split.PausedSplit.{PausedSplit}
use Rattle.jx_file_query.specs.declared.split.Split.{Split}
use Rattle.jx_file_query.specs.Cuts.{cuts_of}
use Rattle.jx_file_query.specs.Split.{IsCutAt, is_going}

abbrev pub paused_of : Split → PausedSplit
paused_of s = record { alloc = s.alloc; aim = s.aim; at = s.at; held = s.held }

-- where the bytes stand that are to be given next, by an index
abbrev pub needed_by : Index → PausedSplit → Option Span
needed_by index s = if is_going s.held then chunk_at index s.at else None

-- with this index it has come as far as a split has
pub record HasPaused (settings : Settings) (chunk : ℕ) (text : List ℕ) (index : Index) (s : PausedSplit) : Type 0 where
  pub known : IsKnown settings chunk text index
  pub kept : Parting
  pub kept_is : s.held ≡ Some kept
  pub cut : IsCutAt settings chunk text s.aim s.at (cuts_of kept)

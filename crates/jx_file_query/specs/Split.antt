-- How far the parts of a container in a text were found, by the index of the text.
use Rattle.std.specs.Prelude.{◌≡◌, ◌==◌, ℕ, ◌-◌, ◌*◌, List, take, Option, None, Some, Bool, false, true, if◌then◌else◌}
use Rattle.jx_summary.specs.declared.span.Span.{Span}
use Rattle.jx_run.specs.declared.texts.settings.Settings.{Settings}
use Rattle.jx_run.specs.Telling.{tokens_by}
use Rattle.jx_file_query.specs.Chunks.{chunk_at}
use Rattle.jx_file_query.specs.Known.{IsKnown}
use Rattle.jx_file_query.specs.declared.cutting.Aim.{Aim}
use Rattle.jx_file_query.specs.declared.cutting.Parting.{Parting}
use Rattle.jx_file_query.specs.declared.split.Split.{Split}
use Rattle.jx_file_query.specs.Cuts.{Cuts, begun, cut_all, cuts_of}

-- the cuts after all token starts of the first chunks, so many
abbrev pub IsCutAt : Settings → ℕ → List ℕ → Aim → ℕ → Cuts → Type 0
IsCutAt settings chunk text aim at c = c ≡ cut_all aim (tokens_by settings.mark (take (at * chunk) text)).marks (begun aim.whole)

-- it has the index of this text, and what the token starts lead to of all bytes before the chunk that it needs
pub record HasCome (settings : Settings) (chunk : ℕ) (text : List ℕ) (s : Split) : Type 0 where
  pub known : IsKnown settings chunk text s.index.now
  pub kept : Parting
  pub kept_is : s.held ≡ Some kept
  pub cut : IsCutAt settings chunk text s.aim s.at (cuts_of kept)

-- the closing bracket was not seen, and memory was not refused
abbrev pub is_going : Option Parting → Bool
is_going None = false
is_going (Some c) = c.sum.closed == 0

-- where the bytes stand that are to be given next
abbrev pub needed : Split → Option Span
needed s = if is_going s.held then chunk_at s.index.now s.at else None

-- how many bytes of the text stand from there on
abbrev pub left : Split → ℕ
left s = s.index.now.size - s.at * s.index.now.chunk

-- the closing bracket was not seen, and it may still go on
abbrev pub IsUnclosed : Split → Type 0
IsUnclosed s = is_going s.held ≡ true

-- out of memory, or the index was found not to be that of any text, and no bytes will be taken
abbrev pub IsLost : Split → Type 0
IsLost s = s.held ≡ None

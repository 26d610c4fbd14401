-- Parts of a text that workers make.
use Rattle.std.specs.Prelude.{◌≡◌, ◌≤◌, ℕ, List, length}
use Rattle.std.specs.List.{slice_range}
use Rattle.jx_summary.specs.declared.span.Span.{Span}
use Rattle.jx_edit.specs.declared.chunking.making.MadePart.{MadePart}
use Rattle.jx_edit.specs.inside.Chunks.{text_of, AreFresh}

-- a part of so many bytes
pub record IsPart (len : ℕ) (span : Span) : Type 0 where
  pub order : span.start ≤ span.end
  pub within : span.end ≤ len

-- the chunks are those of the part
pub record IsMadePart (bytes : List ℕ) (depth : ℕ) (part : MadePart) : Type 0 where
  pub order : part.span.start ≤ part.span.end
  pub within : part.span.end ≤ length bytes
  pub fresh : AreFresh depth part.chunks.items
  pub text : text_of part.chunks.items ≡ slice_range bytes part.span.start part.span.end

-- Which chunk a split needs.
use Rattle.std.proofs.Common.{◌≡◌, Bool, true, false, Option, None, Some, refl, sym, ◌∙◌, ap}
use Rattle.std.specs.Prelude.{if◌then◌else◌}
use Rattle.jx_summary.specs.declared.span.Span.{Span}
use Rattle.jx_file_query.specs.Chunks.{chunk_at}
use Rattle.jx_file_query.specs.declared.split.Split.{Split}
use Rattle.jx_file_query.specs.Split.{is_going, needed}

picked : (b : Bool) (x : Option Span) (s : Span) → (if b then x else None) ≡ Some s → x ≡ Some s
picked true x s e = e
picked false x s e = absurd cc

pub needs_chunk : (s : Split) (span : Span) → needed s ≡ Some span → chunk_at s.index.now s.at ≡ Some span
needs_chunk s span e = picked (is_going s.held) (chunk_at s.index.now s.at) span e

-- one that goes on and needs none has no chunk left
pub none_left : (s : Split) → is_going s.held ≡ true → needed s ≡ None → chunk_at s.index.now s.at ≡ None
none_left s going e = sym (ap (λ (b : Bool). if b then chunk_at s.index.now s.at else None) going) ∙ e

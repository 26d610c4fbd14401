-- A text cut into chunks.
use Rattle.std.specs.Prelude.{◌≡◌, ℕ, suc, ◌-◌, ◌<◌, ◌≤◌, List, [], ◌∷◌, max, nat_lt, if◌then◌else◌, map, length, sum_by, slice_index_or}
use Rattle.jx_summary.specs.declared.span.Span.{Span}

-- the length of the text in bytes, where its first chunk begins, and the spans of its chunks in order
pub record CuttingValue : Type 0 where
  pub len : ℕ
  pub front : ℕ
  pub pieces : List Span

abbrev pub span : ℕ → ℕ → Span
span start end = record { start = start; end = end }

-- how many bytes a span has
abbrev pub span_len : Span → ℕ
span_len a = a.end - a.start

-- chunks that are not empty, one right after another, from a to b
abbrev pub Tiles : ℕ → List Span → ℕ → Type 0
Tiles a [] b = a ≡ b
Tiles a (p ∷ ps) b = (p.start ≡ a) × (a < p.end) × Tiles p.end ps b

-- of the chunks, what lies from an offset on; those that end there or before it are left out
abbrev pub behind : ℕ → List Span → List Span
behind n [] = []
behind n (p ∷ ps) = if nat_lt n p.end then span (max n p.start) p.end ∷ behind n ps else behind n ps

abbrev pub no_span : Span
no_span = record { start = 0; end = 0 }

-- how many bytes the chunk of this number has
abbrev pub piece_len : List Span → ℕ → ℕ
piece_len ps n = span_len (slice_index_or ps n no_span)

-- how many bytes the chunks of these numbers have together
abbrev pub drawn_len : List Span → List ℕ → ℕ
drawn_len ps got = sum_by (λ n. piece_len ps n) got

-- the chunks have this many bytes each, but the last may have fewer
pub record OfSize (size : ℕ) (ps : List Span) : Type 0 where
  pub full : (n : ℕ) → suc n < length ps → piece_len ps n ≡ size
  pub last : (n : ℕ) → n < length ps → piece_len ps n ≤ size

-- the offsets at which two neighbouring chunks meet, in order
abbrev pub meetings : List Span → List ℕ
meetings [] = []
meetings (p ∷ ps) = map (λ q. q.start) ps

-- The gaps: the bytes of a text that no run covers.
use Rattle.std.specs.Prelude.{ℕ, ◌<◌, ◌≤◌, ◌↔◌, List, [], ◌∷◌, min, max, nat_lt, if◌then◌else◌, All, AllPairs, Any}
use Rattle.jx_summary.specs.declared.span.Span.{Span}
use Rattle.jx_book.specs.Spans.{span, Before}

abbrev pub Covers : Span → ℕ → Type 0
Covers a p = (a.start ≤ p) × (p < a.end)

-- the gaps are not empty, stand in rising order with bytes between them, and have just those bytes of a span that no run covers
pub record AreGaps (runs : List Span) (span : Span) (gaps : List Span) : Type 0 where
  pub filled : All (λ g. g.start < g.end) gaps
  pub apart : AllPairs (λ g h. Before g h) gaps
  pub uncovered : (p : ℕ) → Any (λ g. Covers g p) gaps ↔ (Covers span p × All (λ r. ¬ (Covers r p)) runs)

-- the gaps from an offset up to an end, before and between these runs and after the last
abbrev pub gaps_from : ℕ → List Span → ℕ → List Span
gaps_from at [] end = if nat_lt at end then span at end ∷ [] else []
gaps_from at (r ∷ rs) end = if nat_lt at (min r.start end) then span at (min r.start end) ∷ gaps_from (max at r.end) rs end else gaps_from (max at r.end) rs end

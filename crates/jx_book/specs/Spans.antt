-- How spans of a text lie to one another.
use Rattle.std.specs.Prelude.{◌≡◌, ◌⊎◌, ◌<◌}
use Rattle.jx_summary.specs.declared.span.Span.{Span}
pub use Rattle.jx_claim.specs.Cut.{span, span_len}

-- the two have a byte in common
abbrev pub Overlap : Span → Span → Type 0
Overlap a b = (a.start < b.end) × (b.start < a.end)

-- one ends where the other begins
abbrev pub Touch : Span → Span → Type 0
Touch a b = (a.end ≡ b.start) ⊎ (b.end ≡ a.start)

-- one stands wholly to the left of the other, with a byte between them
abbrev pub Before : Span → Span → Type 0
Before a b = a.end < b.start

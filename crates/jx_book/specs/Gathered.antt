-- A run over a text from an offset on, or over all of it.
use Rattle.std.specs.Prelude.{◌≡◌, ℕ, ◌<◌, List, length, Option, None, Some}
use Rattle.jx_summary.specs.declared.span.Span.{Span}
use Rattle.jx_book.specs.Runs.{HeldValue}

-- it covers the text from an offset on
pub record IsRest {S : Type 0} (text : List ℕ) (depth start : ℕ) (h : HeldValue S) : Type 0 where
  pub text_is : h.text ≡ text
  pub depth_is : h.depth ≡ depth
  pub span_is : h.span ≡ record { start = start; end = length text }

-- it covers all of the text
abbrev pub IsWhole : {S : Type 0} → List ℕ → ℕ → HeldValue S → Type 0
IsWhole text depth h = IsRest text depth 0 h

-- none exactly where there is no chunk, and otherwise the run over the text from the front on
abbrev pub IsGathered : {S : Type 0} → List Span → List ℕ → ℕ → ℕ → Option (HeldValue S) → Type 0
IsGathered ps text depth front None = length ps ≡ 0
IsGathered ps text depth front (Some h) = (0 < length ps) × IsRest text depth front h

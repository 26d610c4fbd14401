-- What covers a text from its first byte on is over the whole text.
use Rattle.std.proofs.Common.{◌≡◌, ℕ, List, length, ap, ◌∙◌}
use Rattle.std.specs.Prelude.{slice_range}
use Rattle.jx_summary.specs.declared.span.Span.{Span}
use Rattle.jx_run.specs.Tree.{span}
use Rattle.jx_run.proofs.ReaderSteps.{slice_all}

pub covers_all : (held text : List ℕ) (s : Span) (front : ℕ) → held ≡ text → s ≡ span front (length text) → front ≡ 0 → slice_range held s.start s.end ≡ text
covers_all held text s front same covers from =
    ap (λ (t : List ℕ). slice_range t s.start s.end) same
    ∙ ap (λ (p : Span). slice_range text p.start p.end) covers
    ∙ ap (λ (n : ℕ). slice_range text n (length text)) from
    ∙ slice_all text

-- The answer on a value that stands alone.
use Rattle.std.specs.Prelude.{ℕ}
use Rattle.jx_summary.specs.declared.span.Span.{Span}
use Rattle.jx_words.specs.declared.pointer_answer.PointerAnswer.{PointerAnswer}
use Rattle.jx_words.specs.declared.pointer_answer.PointerAnswer.TheVariants.{Found, Lost, Unread}

-- where the value stands in its text; no bytes where there is none
abbrev pub span_of : PointerAnswer → Span
span_of (Found kind span) = span
span_of (Unread fault) = record { start = 0; end = 0 }
span_of (Lost fault) = record { start = 0; end = 0 }

-- the same, where the text is the value, which has so many bytes
abbrev pub alone : PointerAnswer → ℕ → PointerAnswer
alone (Found kind span) n = Found kind (record { start = 0; end = n })
alone (Unread fault) n = Unread fault
alone (Lost fault) n = Lost fault

-- The elements of a sequence that are texts.
use Rattle.std.specs.Prelude.{List, [], ◌∷◌, ◌++◌}
use Rattle.jx_summary.specs.declared.span.Span.{Span}
use Rattle.jx_answer.specs.declared.element.Element.{Element}
use Rattle.jx_answer.specs.declared.element.ElementAnswer.{ElementAnswer}
use Rattle.jx_answer.specs.declared.element.ElementAnswer.TheVariants.{Accepted, Refused, MayBeCut, Unmarked}

-- the span of one that is, and else nothing
abbrev pub span_if : ElementAnswer → Span → List Span
span_if (Accepted index) span = span ∷ []
span_if (Refused refusal) span = []
span_if MayBeCut span = []
span_if Unmarked span = []

-- their spans, in order
abbrev pub accepted_spans : List Element → List Span
accepted_spans [] = []
accepted_spans (e ∷ more) = span_if e.answer e.span ++ accepted_spans more

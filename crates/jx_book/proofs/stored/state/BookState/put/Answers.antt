use Rattle.std.proofs.Common.{refl, subst}
use Rattle.std.specs.Prelude.{Any}
use Rattle.jx_summary.specs.declared.span.Span.{Span}
use Rattle.jx_book.specs.Runs.{HeldValue}
use Rattle.jx_book.specs.Spans.{Overlap}
use Rattle.jx_book.proofs.stored.state.BookState.put.Goals as goal

pub returns-in-Overlapping : goal.returns-in-Overlapping
returns-in-Overlapping g c = let span = c.span.ensures.span in let is = c.in-Overlapping.ensures in
    (refl, subst (λ (p : Span). Any (λ (x : HeldValue g.row.S.Denot). Overlap x.span p) c.args.self.now.runs) span is, refl)

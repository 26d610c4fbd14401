use Rattle.std.proofs.Common.{◌∙◌, sym, ap, subst, List}
use Rattle.jx_summary.specs.declared.span.Span.{Span}
use Rattle.jx_book.specs.Runs.{HeldValue, IsApart, spans_of}
use Rattle.jx_book.specs.Gaps.{AreGaps, gaps_from}
use Rattle.jx_book.proofs.GapLaws.{are_gaps}
use Rattle.jx_book.proofs.stored.closed.Closed.gaps.Goals as goal

pub returns : goal.returns
returns g c =
    let xs : List (HeldValue g.row.S.Denot) = c.args.self.now in
    let apart : IsApart xs = subst (λ (l : List (HeldValue g.row.S.Denot)). IsApart l) c.self.view_is c.self.invariant in
    let same = c.new.ensures ∙ ap (λ (l : List (HeldValue g.row.S.Denot)). gaps_from c.args.span.start (spans_of l) c.args.span.end) (c.as_slice.ensures.value ∙ c.self.view_is) in
    subst (λ (gs : List Span). AreGaps (spans_of xs) c.args.span gs) (sym same) (are_gaps xs c.args.span apart)

use Rattle.std.proofs.Common.{rules, ◌≡◌, ◌≢◌, ◌<◌, ◌≤◌, List, length, ap, ◌∙◌, subst, arith}
use Rattle.jx_summary.specs.declared.span.Span.{Span}
use Rattle.jx_book.specs.Runs.{HeldValue, StateValue, IsApart}
use Rattle.jx_book.proofs.Aparts.{no_overlap, is_free, no_left, at_any}
use Rattle.jx_book.proofs.stored.state.BookState.position.Goals as goal

pub returns-then-first-span-2 : goal.returns-then-first-span-2
returns-then-first-span-2 g c =
    let xs : List (HeldValue g.row.S.Denot) = c.args.self.now.runs in
    let apart : IsApart xs = subst (λ (v : StateValue g.row.S.Denot). IsApart v.runs) c.self.view_is c.self.invariant.runs in
    let x = c.index.result.now in
    let at = c.first_from-at.result in
    let low : at < length xs = search rules in
    let read = at_any xs at x low (search rules) in
    let is : c.span-first.result ≡ x.span = c.span-first.ensures.span in
    let behind : c.args.span.start ≤ x.span.end = omega (arith, c.first_from-at.ensures.here x low, ap (λ (h : HeldValue g.row.S.Denot). h.span.end) (read x)) in
    let further : x.span.end ≢ c.args.span.start = subst (λ (p : Span). p.end ≢ c.args.span.start) is c.if-first-span.false in
    let starts : x.span.start < c.args.span.end = subst (λ (p : Span). p.start < c.args.span.end) is c.if-first-span-2.true in
    (at, x, low, read x, (starts, omega arith))

pub returns-then-first-span-3 : goal.returns-then-first-span-3
returns-then-first-span-3 g c =
    let xs : List (HeldValue g.row.S.Denot) = c.args.self.now.runs in
    let apart : IsApart xs = subst (λ (v : StateValue g.row.S.Denot). IsApart v.runs) c.self.view_is c.self.invariant.runs in
    let x = c.index.result.now in
    let at = c.first_from-at.result in
    let low : at < length xs = search rules in
    let read = at_any xs at x low (search rules) in
    let is : c.span-first.result ≡ x.span = c.span-first.ensures.span in
    let behind : c.args.span.start ≤ x.span.end = omega (arith, c.first_from-at.ensures.here x low, ap (λ (h : HeldValue g.row.S.Denot). h.span.end) (read x)) in
    let further : x.span.end ≢ c.args.span.start = subst (λ (p : Span). p.end ≢ c.args.span.start) is c.if-first-span.false in
    let starts : x.span.start ≡ c.args.span.end = subst (λ (p : Span). p.start ≡ c.args.span.end) is c.if-first-span-3.true in (
      low,
      no_overlap xs apart c.args.span at (λ k d l. omega (arith, c.first_from-at.ensures.below k d l)) (λ d _. omega (arith, ap (λ (h : HeldValue g.row.S.Denot). h.span.start) (read d))),
      no_left xs apart c.args.span at c.first_from-at.ensures.below (λ d _. omega (arith, ap (λ (h : HeldValue g.row.S.Denot). h.span.end) (read d))),
      λ d. ap (λ (h : HeldValue g.row.S.Denot). h.span.start) (read d) ∙ starts,
    )

pub returns-else-first-span-3 : goal.returns-else-first-span-3
returns-else-first-span-3 g c =
    let xs : List (HeldValue g.row.S.Denot) = c.args.self.now.runs in
    let apart : IsApart xs = subst (λ (v : StateValue g.row.S.Denot). IsApart v.runs) c.self.view_is c.self.invariant.runs in
    let x = c.index.result.now in
    let at = c.first_from-at.result in
    let low : at < length xs = search rules in
    let read = at_any xs at x low (search rules) in
    let is : c.span-first.result ≡ x.span = c.span-first.ensures.span in
    let behind : c.args.span.start ≤ x.span.end = omega (arith, c.first_from-at.ensures.here x low, ap (λ (h : HeldValue g.row.S.Denot). h.span.end) (read x)) in
    let further : x.span.end ≢ c.args.span.start = subst (λ (p : Span). p.end ≢ c.args.span.start) is c.if-first-span.false in
    let starts : c.args.span.end ≤ x.span.start = subst (λ (p : Span). c.args.span.end ≤ p.start) is c.if-first-span-2.false in
    let apart_from : x.span.start ≢ c.args.span.end = subst (λ (p : Span). p.start ≢ c.args.span.end) is c.if-first-span-3.false in
    is_free xs apart c.args.span at (omega arith) c.first_from-at.ensures.below (λ d _. omega (arith, ap (λ (h : HeldValue g.row.S.Denot). h.span.start) (read d)))

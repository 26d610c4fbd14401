use Rattle.std.proofs.Common.{rules, ◌≡◌, ◌+◌, ◌<◌, ◌≤◌, List, length, get_or, sym, ap, subst, arith}
use Rattle.jx_summary.specs.declared.span.Span.{Span}
use Rattle.jx_book.specs.Runs.{HeldValue, StateValue, IsApart}
use Rattle.jx_book.proofs.Aparts.{no_overlap, up_to, at_any}
use Rattle.jx_book.proofs.stored.state.BookState.left_position.Goals as goal

pub returns-then-len-at-eq1 : goal.returns-then-len-at-eq1
returns-then-len-at-eq1 g c =
    let xs : List (HeldValue g.row.S.Denot) = c.args.self.now.runs in
    let apart : IsApart xs = subst (λ (v : StateValue g.row.S.Denot). IsApart v.runs) c.self.view_is c.self.invariant.runs in
    let len : c.args.at + 1 ≡ length xs = omega (arith, c.requires.bound, c.len.ensures, ap (λ (v : StateValue g.row.S.Denot). length v.runs) c.self.view_is) in
    (c.requires.bound, no_overlap xs apart c.args.span (c.args.at + 1) (up_to xs c.args.span c.args.at c.requires.below c.requires.here) (λ d l. absurd (omega arith)), c.requires.here)

pub returns-then-next-span : goal.returns-then-next-span
returns-then-next-span g c =
    let xs : List (HeldValue g.row.S.Denot) = c.args.self.now.runs in
    let apart : IsApart xs = subst (λ (v : StateValue g.row.S.Denot). IsApart v.runs) c.self.view_is c.self.invariant.runs in
    let x = c.index.result.now in
    let read : get_or xs (c.args.at + 1) x ≡ x = search rules in
    let low : c.args.at + 1 < length xs = search rules in
    let is : c.span-next.result ≡ x.span = c.span-next.ensures.span in
    let starts : x.span.start < c.args.span.end = subst (λ (p : Span). p.start < c.args.span.end) is c.if-next-span.true in
    (c.args.at + 1, x, low, read, (starts, omega (arith, c.requires.here x, apart.apart c.args.at (c.args.at + 1) x (omega arith) low, apart.filled (c.args.at + 1) x low, ap (λ (h : HeldValue g.row.S.Denot). h.span.start) read, ap (λ (h : HeldValue g.row.S.Denot). h.span.end) read)))

pub returns-else-next-span : goal.returns-else-next-span
returns-else-next-span g c =
    let xs : List (HeldValue g.row.S.Denot) = c.args.self.now.runs in
    let apart : IsApart xs = subst (λ (v : StateValue g.row.S.Denot). IsApart v.runs) c.self.view_is c.self.invariant.runs in
    let x = c.index.result.now in
    let above : (d : HeldValue g.row.S.Denot) → c.args.at + 1 < length xs → c.args.span.end ≤ (get_or xs (c.args.at + 1) d).span.start =
    λ d low. let p : c.args.span.end ≤ c.span-next.result.start = c.if-next-span.false in
    omega (arith, p, ap (λ (s : Span). s.start) c.span-next.ensures.span, ap (λ (h : HeldValue g.row.S.Denot). h.span.start) (sym (at_any xs (c.args.at + 1) x low (search rules) d))) in
    (c.requires.bound, no_overlap xs apart c.args.span (c.args.at + 1) (up_to xs c.args.span c.args.at c.requires.below c.requires.here) above, c.requires.here)

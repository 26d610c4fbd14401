use Rattle.std.proofs.Common.{rules, ℕ, ◌+◌, ◌-◌, ◌/◌, ◌<◌, List, length, ap, subst, arith}
use mathlib.Core.Logic.{dite}
use native.Mathlib.Decide.{dec_lt}
use Rattle.jx_summary.specs.declared.span.Span.{Span}
use Rattle.jx_book.specs.Runs.{HeldValue, StateValue, IsApart}
use Rattle.jx_book.proofs.Aparts.{at_any, ends_rise}
use Rattle.jx_book.proofs.stored.state.BookState.first_from.Goals as goal

pub loop-low-preserved-then-span-start : goal.loop-low-preserved-then-span-start
loop-low-preserved-then-span-start g c =
    let i = c.loop-low.invariant in
    let xs : List (HeldValue g.row.S.Denot) = c.args.self.now.runs in
    let apart : IsApart xs = subst (λ (v : StateValue g.row.S.Denot). IsApart v.runs) c.self.view_is c.self.invariant.runs in
    let middle : ℕ = c.loop-low.low + (c.loop-low.high - c.loop-low.low) / 2 in
    let x = c.index.result.now in
    let inside : middle < length xs = search rules in
    let read = at_any xs middle x inside (search rules) in
    let ends : x.span.end < c.args.start = subst (λ (p : Span). p.end < c.args.start) c.span.ensures.span c.if-span-start.true in
    record {
      ordered = omega arith;
      bound = i.bound;
      below = λ k d l. dite (dec_lt k c.loop-low.low) (λ less. i.below k d less)
          (λ not. omega (arith, ends_rise xs apart k middle d (omega arith) inside, ap (λ (h : HeldValue g.row.S.Denot). h.span.end) (read d)));
      here = i.here;
    }

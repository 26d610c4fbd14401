use Rattle.std.proofs.Common.{rules, ◌≡◌, ◌+◌, ◌-◌, ◌<◌, ◌≤◌, ◌^◌, length, get_or, refl, sym, ap, ◌∙◌, subst, arith, inr}
use Rattle.std.specs.Prelude.{slice_get, slice_index_or, remove, sum_by, Some}
use Rattle.std.proofs.lemmas.List.{get_or_default}
use Rattle.std.proofs.lemmas.Option.{slice_get_read}
use Rattle.std.proofs.lemmas.List.Sums.{sum_by-remove}
use Rattle.jx_summary.specs.declared.span.Span.{Span}
use Rattle.jx_book.specs.Runs.{HeldValue, StateValue, run_len, state, spans_of}
use Rattle.jx_book.specs.HandOver.{Takes}
use Rattle.jx_book.proofs.Aparts.{removed}
use Rattle.jx_book.proofs.SpanEdits.{takes}
use Rattle.jx_book.proofs.stored.state.BookState.take.Goals as goal

pub invariant_of-self : goal.invariant_of-self
invariant_of-self g c =
    let i = c.self.invariant in
    let s = c.self.inside in
    let low : c.args.at < length s.runs.items = subst (λ (v : StateValue g.row.S.Denot). c.args.at < length v.runs) (sym c.self.view_is) c.requires.bound in
    let items = c.remove-neighbour.ensures.items in
    let taken : c.in-Some.taken ≡ s.taken + (c.span-span.result.end - c.span-span.result.start) = search rules in
    let len : run_len (get_or s.runs.items c.args.at c.index.result.now) ≡ c.span-span.result.end - c.span-span.result.start = ap (λ (p : Span). p.end - p.start) (ap (λ (h : HeldValue g.row.S.Denot). h.span) (sym c.index.ensures) ∙ sym c.span-span.ensures.span) in
    record {
      runs = rw items (removed s.runs.items c.args.at low i.runs);
      covered = omega (arith, i.covered, ap (sum_by run_len) items, sum_by-remove run_len s.runs.items c.args.at c.index.result.now low, len, taken);
    }

pub returns : goal.returns
returns g c =
    let s = c.self.inside in
    let n = c.remove-neighbour.result in
    let x = c.index.result.now in
    let low : c.args.at < length s.runs.items = subst (λ (v : StateValue g.row.S.Denot). c.args.at < length v.runs) (sym c.self.view_is) c.requires.bound in
    let same : x ≡ n = c.index.ensures ∙ get_or_default s.runs.items c.args.at x n low ∙ sym c.remove-neighbour.ensures.value in
    let read : slice_get c.args.self.now.runs c.args.at ≡ Some n = ap (λ (v : StateValue g.row.S.Denot). slice_get v.runs c.args.at) (sym c.self.view_is) ∙ slice_get_read s.runs.items (length s.runs.items) c.args.at n refl low c.remove-neighbour.ensures.value in
    let filled : n.span.start < n.span.end = let f = c.self.invariant.runs.filled c.args.at n low in subst (λ (h : HeldValue g.row.S.Denot). h.span.start < h.span.end) (sym c.remove-neighbour.ensures.value) f in
    let span : c.span-span.result ≡ n.span = c.span-span.ensures.span ∙ ap (λ (h : HeldValue g.row.S.Denot). h.span) same in
    let sum : c.in-Some.taken ≡ s.taken + (c.span-span.result.end - c.span-span.result.start) = search rules in
    let taken : c.in-Some.taken ≡ s.taken + run_len n = sum ∙ ap (λ (p : Span). s.taken + (p.end - p.start)) span in
    let view = (λ i. state (c.remove-neighbour.ensures.items i) s.put (taken i)) ∙ ap (λ (v : StateValue g.row.S.Denot). state (remove v.runs c.args.at) v.put (v.taken + run_len n)) c.self.view_is in
    let in_place : slice_index_or c.args.self.now.runs c.args.at n ≡ n = ap (λ (v : StateValue g.row.S.Denot). slice_index_or v.runs c.args.at n) (sym c.self.view_is) ∙ sym c.remove-neighbour.ensures.value in
    let takes_it : Takes (spans_of c.args.self.now.runs) c.args.run.span n.span (spans_of (remove c.args.self.now.runs c.args.at)) = takes c.args.self.now.runs c.args.at n c.args.run.span c.requires.bound in_place (c.requires.neighbour _ read) in (
      refl,
      record {
        takes = subst (λ (v : StateValue g.row.S.Denot). Takes (spans_of c.args.self.now.runs) c.args.run.span n.span (spans_of v.runs)) (sym view) takes_it;
        filled = filled;
        no_overlap = c.requires.no_overlap;
        removed = (c.args.at, c.requires.neighbour _ read, view);
      },
    )

pub returns-in_default : goal.returns-in_default
returns-in_default g c =
    let s = c.self.inside in
    let x = c.index.result.now in
    let low : c.args.at < length s.runs.items = subst (λ (v : StateValue g.row.S.Denot). c.args.at < length v.runs) (sym c.self.view_is) c.requires.bound in
    let read : slice_get c.args.self.now.runs c.args.at ≡ Some x = ap (λ (v : StateValue g.row.S.Denot). slice_get v.runs c.args.at) (sym c.self.view_is) ∙ slice_get_read s.runs.items (length s.runs.items) c.args.at x refl low c.index.ensures in
    let passes : 2 ^ 128 ≤ s.taken + (c.span-span.result.end - c.span-span.result.start) = search rules in
    let over : 2 ^ 128 ≤ c.args.self.now.taken + run_len x = omega (arith, passes, ap (λ (p : Span). p.end - p.start) c.span-span.ensures.span, ap (λ (v : StateValue g.row.S.Denot). v.taken) c.self.view_is) in
    (refl, inr (c.args.at, x, c.requires.neighbour _ read, c.requires.no_overlap, over), refl)

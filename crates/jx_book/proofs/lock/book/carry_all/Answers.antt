use Rattle.std.proofs.Common.{rules, ◌≡◌, ◌<◌, List, length, get_or, get_or-set_same, get_or-set_other, sym, ap, subst, ◌∙◌, arith}
use mathlib.Core.Logic.{dite}
use native.Mathlib.Decide.{ℕ_discrete}
use Rattle.std.specs.Prelude.{sum_by}
use Rattle.jx_book.specs.Runs.{HeldValue, run_len}
use Rattle.jx_book.specs.Joined.{IsOtherRun}
use Rattle.jx_book.proofs.Sizes.{sized}
use Rattle.jx_book.specs.Shares.{IsOf}
use Rattle.jx_book.proofs.Aparts.{kept_apart, kept_sum, at_any}
use Rattle.jx_book.proofs.lock.book.carry_all.Goals as goal

pub loop-i-preserved : goal.loop-i-preserved
loop-i-preserved g c =
    let i = c.loop-i.invariant in
    let xs : List (HeldValue g.row.S.Denot) = c.loop-i.runs.items in
    let x = c.index_mut.result.now in
    let y : HeldValue g.row.S.Denot = c.carry.new.self in
    let low : c.loop-i.i < length xs = search rules in
    let read = at_any xs c.loop-i.i x low c.index_mut.ensures.value in
    let yes = c.carry.ensures.yes c.if-not-carry.false in
    let same : (d : HeldValue g.row.S.Denot) → y.span ≡ (get_or xs c.loop-i.i d).span = λ d. ap (λ (h : HeldValue g.row.S.Denot). h.span) yes.0 ∙ ap (λ (h : HeldValue g.row.S.Denot). h.span) (sym (read d)) in
    let text : y.text ≡ c.args.text.now = ap (λ (h : HeldValue g.row.S.Denot). h.text) yes.0 in
    let depth : y.depth ≡ c.args.depth = ap (λ (h : HeldValue g.row.S.Denot). h.depth) yes.0 ∙ yes.1 in
    let of : IsOf c.args.text.now c.args.depth y = record { text_is = text; depth_is = depth; within = omega (arith, yes.2, ap (λ (h : HeldValue g.row.S.Denot). h.span.end) yes.0) } in
    record {
      bound = search rules;
      apart = kept_apart xs c.loop-i.i y low same i.apart;
      of = λ k d l. dite (ℕ_discrete k c.loop-i.i)
          (λ e. rw (e, get_or-set_same xs c.loop-i.i y d low) of)
          (λ ne. rw (get_or-set_other xs c.loop-i.i k y d ne) (i.of k d (omega arith)));
      total = kept_sum xs c.loop-i.i y x low (same x) ∙ i.total;
    }

pub returns-then-not-carry-clause-err : goal.returns-then-not-carry-clause-err
returns-then-not-carry-clause-err g c =
    let xs : List (HeldValue g.row.S.Denot) = c.loop-i.runs.items in
    let y : HeldValue g.row.S.Denot = c.carry.new.self in
    let low : c.loop-i.i < length xs = search rules in
    let no = c.carry.ensures.no c.if-not-carry.true in
    let same : c.swap_remove.result ≡ c.index_mut.result.now = c.swap_remove.ensures.value ∙ get_or-set_same xs c.loop-i.i y c.swap_remove.result low ∙ no.0 in
    subst (λ (r : HeldValue g.row.S.Denot). IsOtherRun c.args.text.now c.args.depth r) (sym same) no.1

pub returns-then-not-carry-clause-size : goal.returns-then-not-carry-clause-size
returns-then-not-carry-clause-size g c =
    let i = c.loop-i.invariant in
    let xs : List (HeldValue g.row.S.Denot) = c.loop-i.runs.items in
    let x = c.index_mut.result.now in
    let y : HeldValue g.row.S.Denot = c.carry.new.self in
    let r : HeldValue g.row.S.Denot = c.swap_remove.result in
    let low : c.loop-i.i < length xs = search rules in
    let read = at_any xs c.loop-i.i x low c.index_mut.ensures.value in
    let same : r ≡ x = c.swap_remove.ensures.value ∙ get_or-set_same xs c.loop-i.i y r low ∙ (c.carry.ensures.no c.if-not-carry.true).0 in
    sized xs c.loop-i.i r (sum_by run_len c.args.runs.items) 0 i.apart low (same ∙ sym (read r)) (omega (arith, i.total))

use Rattle.std.proofs.Common.{◌≡◌, ℕ, ◌<◌, ◌≤◌, refl, subst, sym, inr, List, [], ◌∷◌, length, get_or, cond, Bool, true, ap, ◌∙◌, arith}
use Rattle.std.specs.Prelude.{count_by, sum_by, MatchOption}
use Rattle.std.specs.declared.option.Option.{Option}
use Rattle.std.specs.declared.option.Option.TheVariants.{None, Some}
use Rattle.std.proofs.lemmas.List.Sums.{sum_by-cons}
use Rattle.jx_claim.specs.Claimed.{SeatValue, once_below}
use Rattle.jx_summary.specs.declared.span.Span.{Span}
use Rattle.jx_claim.specs.Cut.{Tiles}
use Rattle.std.proofs.lemmas.Result.{err_from_is_err_and}
use Rattle.jx_book.specs.Runs.{HeldValue, IsApart, run_len}
use Rattle.jx_book.specs.Shares.{ShareValue}
use Rattle.jx_book.proofs.Sizes.{sized, other_from}
use Rattle.jx_book.specs.Gathered.{IsGathered, IsRest}
use Rattle.jx_book.proofs.Totals.{all_bytes}
use Rattle.jx_book.proofs.lock.gathering.gather.Goals as goal

abbrev bit : Bool → ℕ
bit b = cond b 1 0

some_spent : (ss : List SeatValue) → 0 < length ss → ((k : ℕ) (d : SeatValue) → k < length ss → (get_or ss k d).spent ≡ true) → 0 < count_by (λ (s : SeatValue). s.spent) ss
some_spent [] low h = absurd (omega arith)
some_spent (s ∷ ss) low h = omega (arith, sum_by-cons (λ (t : SeatValue). cond t.spent 1 0) s ss, ap bit (h 0 s (omega arith)))

pub only_run-requires-clause-total : goal.only_run-requires-clause-total
only_run-requires-clause-total g c =
    let ss : List SeatValue = c.args.seats.items in
    let ps = c.args.cutting.now.pieces in
    let all = c.close.ensures.spent (some_spent ss c.close.ensures.some c.requires.spent) in
    let bytes = all_bytes c.args.cutting.now.front ps c.args.cutting.now.len ss c.len-len.ensures.covers (λ x. c.close.ensures.got x ∙ ap (once_below x) (all ∙ c.requires.claims)) in
    omega (arith, bytes, c.requires.bytes, c.in_ok-closed.ensures.total, c.requires.cutting, c.front-front.ensures.front, ap (λ (l : List (HeldValue g.row.S.Denot)). sum_by run_len l) c.into_runs-runs.ensures.runs)

some_piece : (a : ℕ) (ps : List Span) (len : ℕ) → Tiles a ps len → a < len → 0 < length ps
some_piece a [] len c low = absurd (omega (arith, c, low))
some_piece a (p ∷ ps) len c low = omega arith

covers_le : (a : ℕ) (ps : List Span) (b : ℕ) → Tiles a ps b → a ≤ b
covers_le a [] b e = omega (arith, e)
covers_le a (p ∷ ps) b c = omega (arith, c.1, covers_le p.end ps b c.2)

no_piece : (a : ℕ) (ps : List Span) (len : ℕ) → Tiles a ps len → len ≡ a → length ps ≡ 0
no_piece a [] len c e = refl
no_piece a (p ∷ ps) len c e = absurd (omega (arith, c.1, covers_le p.end ps len c.2, e))

module _ {S : Type 0} (ps : List Span) (text : List ℕ) (depth front : ℕ) where
  gathered : (o : Option (HeldValue S)) → Tiles front ps (length text)
      → MatchOption o (length text ≡ front) (λ h. (front < length text) × IsRest text depth front h) → IsGathered ps text depth front o
  gathered None c h = no_piece front ps (length text) c h
  gathered (Some x) c h = (some_piece front ps (length text) c h.0, h.1)

pub returns-clause-ok : goal.returns-clause-ok
returns-clause-ok g c =
    let v = c.args.cutting.now in
    let at : c.front-front.result ≡ v.front = c.front-front.ensures.front in
    let only = subst (λ (n : ℕ). MatchOption c.only_run.result (length c.args.text.now ≡ n) (λ h. (n < length c.args.text.now) × IsRest c.args.text.now c.args.depth n h)) at c.only_run.ensures in
    gathered v.pieces c.args.text.now c.args.depth v.front c.only_run.result (subst (λ (n : ℕ). Tiles v.front v.pieces n) c.requires.cutting c.len-len.ensures.covers) only

pub returns-in_err-closed-clause-err : goal.returns-in_err-closed-clause-err
returns-in_err-closed-clause-err g c =
    let p = err_from_is_err_and c.from_residual.result c.from_residual.ensures.1 in
    rw (p.1, p.2) (other_from c.args.text.now c.args.depth c.args.cutting.now.front _ c.in_err-closed.ensures.err)

pub returns-in_err-closed-clause-size : goal.returns-in_err-closed-clause-size
returns-in_err-closed-clause-size g c =
    let p = err_from_is_err_and c.from_residual.result c.from_residual.ensures.1 in
    rw (p.1, p.2) c.in_err-closed.ensures.size

pub returns-then-begins_before-clause-err : goal.returns-then-begins_before-clause-err
returns-then-begins_before-clause-err g c =
    let items : c.as_slice.result.now ≡ c.into_runs-runs.result.items = c.as_slice.ensures.value in
    let yes = c.begins_before.ensures.yes c.if-begins_before.true in
    let r : HeldValue g.row.S.Denot = c.swap_remove.result in
    inr (omega (arith, yes.1 r, c.front-front.ensures.front, ap (λ (l : List (HeldValue g.row.S.Denot)). (get_or l 0 r).span.start) items, ap (λ (h : HeldValue g.row.S.Denot). h.span.start) c.swap_remove.ensures.value))

pub returns-then-begins_before-clause-size : goal.returns-then-begins_before-clause-size
returns-then-begins_before-clause-size g c =
    let X = HeldValue g.row.S.Denot in
    let xs : List X = c.into_runs-runs.result.items in
    let items : c.as_slice.result.now ≡ xs = c.as_slice.ensures.value in
    let yes = c.begins_before.ensures.yes c.if-begins_before.true in
    let apart : IsApart xs = subst (λ (l : List X). IsApart l) (sym c.into_runs-runs.ensures.runs) c.in_ok-closed.ensures.apart in
    sized xs 0 c.swap_remove.result (sum_by (λ (s : ShareValue). s.put) c.args.shares.items) (sum_by (λ (s : ShareValue). s.taken) c.args.shares.items)
    apart (subst (λ (l : List X). 0 < length l) items yes.0) c.swap_remove.ensures.value
    (omega (arith, c.in_ok-closed.ensures.total, ap (λ (l : List X). sum_by run_len l) c.into_runs-runs.ensures.runs))

use Rattle.std.proofs.Common.{◌≡◌, ℕ, ◌+◌, ◌<◌, ◌≤◌, List, [], ◌∷◌, ◌++◌, length, get_or, ap, subst, arith, length-append}
use Rattle.std.specs.Prelude.{sum_by}
use Rattle.std.proofs.Math.Seq.{get_or-append_seam}
use Rattle.jx_book.specs.Runs.{HeldValue, IsApart, run_len}
use Rattle.jx_book.specs.Shares.{IsOf}
use Rattle.jx_book.proofs.Single.{single}
use Rattle.jx_book.proofs.lock.gathering.only_run.Goals as goal

pub returns-in-Some : goal.returns-in-Some
returns-in-Some g c =
    let r = c.in-Some.run' in
    let items = c.in-Some.ensures.items in
    let front : List (HeldValue g.row.S.Denot) = c.pop.new.self.items in
    let b : ℕ = length c.args.text.now in
    let apart : IsApart (front ++ r ∷ []) = subst (λ (l : List (HeldValue g.row.S.Denot)). IsApart l) items c.requires.apart in
    let ends : (k : ℕ) (d : HeldValue g.row.S.Denot) → k < length (front ++ r ∷ []) → IsOf c.args.text.now c.args.depth (get_or (front ++ r ∷ []) k d) =
    subst (λ (l : List (HeldValue g.row.S.Denot)). (k : ℕ) (d : HeldValue g.row.S.Denot) → k < length l → IsOf c.args.text.now c.args.depth (get_or l k d)) items c.requires.of in
    let a : ℕ = c.args.front in
    let starts : (k : ℕ) (d : HeldValue g.row.S.Denot) → k < length (front ++ r ∷ []) → a ≤ (get_or (front ++ r ∷ []) k d).span.start =
    subst (λ (l : List (HeldValue g.row.S.Denot)). (k : ℕ) (d : HeldValue g.row.S.Denot) → k < length l → a ≤ (get_or l k d).span.start) items c.requires.from in
    let sum : a + sum_by run_len (front ++ r ∷ []) ≡ b = omega (arith, ap (λ (l : List (HeldValue g.row.S.Denot)). sum_by run_len l) items, c.requires.total) in
    let s = single front r a b apart starts (λ k d l. (ends k d l).within) sum in
    let mine : IsOf c.args.text.now c.args.depth r = subst (IsOf c.args.text.now c.args.depth) (get_or-append_seam front r [] r) (ends (length front) r (omega (arith, length-append front (r ∷ [])))) in
    let filled : r.span.start < r.span.end = subst (λ (h : HeldValue g.row.S.Denot). h.span.start < h.span.end) (get_or-append_seam front r [] r) (apart.filled (length front) r (omega (arith, length-append front (r ∷ [])))) in
    (omega (arith, filled, mine.within, s.0), record { text_is = mine.text_is; depth_is = mine.depth_is; span_is = λ i. record { start = s.0 i; end = s.1 i } })

-- What an edit of the runs does to their spans.
use Rattle.std.proofs.Common.{◌≡◌, ℕ, suc, ◌<◌, List, [], ◌∷◌, ◌++◌, length, get_or, take, drop, sym, ap, ◌∙◌, ⊎_elim, inl, inr, arith}
use Rattle.std.specs.Prelude.{insert, remove, All}
use mathlib.Core.Logic.{dite}
use native.Mathlib.Decide.{dec_lt}
use Rattle.std.proofs.Math.Seq.{drop-cons}
use Rattle.std.proofs.lemmas.List.{map-append, take-append-drop}
use Rattle.jx_summary.specs.declared.span.Span.{Span}
use Rattle.jx_book.specs.Spans.{Touch, Before}
use Rattle.jx_book.specs.Runs.{HeldValue, spans_of}
use Rattle.jx_book.specs.HandOver.{NoneTouch, Stores, Takes}
use Rattle.jx_book.specs.Puts.{IsFree, IsNeighbour}

no_touch_left : (a b : Span) → a.start < a.end → b.start < b.end → Before b a → ¬ (Touch a b)
no_touch_left a b fa fb h (inl e) = omega (arith, e)
no_touch_left a b fa fb h (inr e) = omega (arith, e)

no_touch_right : (a b : Span) → a.start < a.end → b.start < b.end → Before a b → ¬ (Touch a b)
no_touch_right a b fa fb h (inl e) = omega (arith, e)
no_touch_right a b fa fb h (inr e) = omega (arith, e)

module _ {S : Type 0} where
  none_touch : (xs : List (HeldValue S)) (a : Span) → ((i : ℕ) (d : HeldValue S) → i < length xs → ¬ (Touch a (get_or xs i d).span)) → NoneTouch a (spans_of xs)
  none_touch [] a h = tt
  none_touch (x ∷ xs) a h = (h 0 x (omega arith), none_touch xs a (λ i d l. h (suc i) d (omega arith)))

  pub stores : (xs : List (HeldValue S)) (k : ℕ) (x : HeldValue S) → All (λ (r : HeldValue S). r.span.start < r.span.end) xs → x.span.start < x.span.end → IsFree xs x.span k → Stores (spans_of xs) x.span (spans_of (insert xs k x))
  stores xs k x filled fx free =
      let front : List (HeldValue S) = take k xs in
      let back : List (HeldValue S) = drop k xs in
      let span : HeldValue S → Span = λ r. r.span in (
        none_touch xs x.span (λ i d l. dite (dec_lt i k)
            (λ less. no_touch_left x.span (get_or xs i d).span fx (filled i d l) (free.below i d less))
            (λ not. no_touch_right x.span (get_or xs i d).span fx (filled i d l) (free.above i d (omega arith) l))),
        (spans_of front, spans_of back, ap spans_of (sym (take-append-drop k xs)) ∙ map-append span front back, map-append span front (x ∷ back)),
      )

  touches : (xs : List (HeldValue S)) (a : Span) (k : ℕ) (n : HeldValue S) → IsNeighbour xs a k n → Touch n.span a
  touches xs a k n h = ⊎_elim (λ e. inl e) (λ t. inr (sym t.0)) h.1

  pub takes : (xs : List (HeldValue S)) (k : ℕ) (n : HeldValue S) (a : Span) → k < length xs → get_or xs k n ≡ n → IsNeighbour xs a k n → Takes (spans_of xs) a n.span (spans_of (remove xs k))
  takes xs k n a low read is =
      let front : List (HeldValue S) = take k xs in
      let back : List (HeldValue S) = drop (suc k) xs in
      let span : HeldValue S → Span = λ r. r.span in
      let here : drop k xs ≡ n ∷ back = drop-cons xs k n low ∙ ap (λ (y : HeldValue S). y ∷ back) read in
      let all : xs ≡ front ++ n ∷ back = sym (take-append-drop k xs) ∙ ap (λ (l : List (HeldValue S)). front ++ l) here in (
        (spans_of front, spans_of back, map-append span front back, ap spans_of all ∙ map-append span front (n ∷ back)),
        touches xs a k n is,
      )

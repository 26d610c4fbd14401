-- Runs stay apart.
use Rattle.std.proofs.Common.{◌≡◌, ℕ, set, length-set, get_or-set_same, get_or-set_other, ◌+◌, ◌-◌, ◌<◌, ◌≤◌, List, length, get_or, sym, refl, ap, ◌∙◌, arith}
use Rattle.std.specs.Prelude.{insert, remove, sum_by}
use mathlib.Core.Logic.{dite}
use native.Mathlib.Decide.{dec_lt, ℕ_discrete}
use Rattle.std.proofs.lemmas.List.Edits.{length-insert, get_or-insert_below, get_or-insert_at, get_or-insert_above, length-remove, get_or-remove_below, get_or-remove_above}
use Rattle.std.proofs.lemmas.List.{get_or_default}
use Rattle.std.proofs.lemmas.List.Quantifiers.{all_pairs_remove}
use Rattle.std.proofs.lemmas.List.Sums.{sum_by-set}
use Rattle.jx_summary.specs.declared.span.Span.{Span}
use Rattle.jx_book.specs.Runs.{HeldValue, run_len, IsApart}
use Rattle.jx_book.specs.Spans.{Before}
use Rattle.jx_book.specs.Puts.{IsFree, NoOverlap, NoLeft}

-- a place of a list is below k, k, or above it
split : {P : Type 0} (k i : ℕ) → (i < k → P) → (i ≡ k → P) → (k < i → P) → P
split k i lower here upper = dite (dec_lt i k) lower (λ n. dite (ℕ_discrete i k) here (λ ne. upper (omega arith)))

module _ {S : Type 0} where
  insert_below : (xs : List (HeldValue S)) (k : ℕ) (x d : HeldValue S) (i : ℕ) → k ≤ length xs → k < i → get_or (insert xs k x) i d ≡ get_or xs (i - 1) d
  insert_below xs k x d i low above = let e : i ≡ (i - 1) + 1 = omega arith in
      ap (λ j. get_or (insert xs k x) j d) e ∙ get_or-insert_above xs k x d (i - 1) (omega arith) low

  remove_is : (xs : List (HeldValue S)) (k i : ℕ) (d : HeldValue S) → k < length xs → (j : ℕ) × (i ≤ j) × (j ≤ i + 1) × (get_or (remove xs k) i d ≡ get_or xs j d)
  remove_is xs k i d low = dite (dec_lt i k) (λ l. (i, omega arith, omega arith, get_or-remove_below xs k d i l low)) (λ n. (i + 1, omega arith, omega arith, get_or-remove_above xs k d i (omega arith) low))

  -- a run that stands apart joins the others
  pub inserted : (xs : List (HeldValue S)) (k : ℕ) (x : HeldValue S) → IsApart xs → x.span.start < x.span.end → IsFree xs x.span k → IsApart (insert xs k x)
  inserted xs k x h filled free =
      let n = length-insert xs k x free.bound in
      record {
        filled = λ i d low. split k i
            (λ l. rw (get_or-insert_below xs k x d i l free.bound) (h.filled i d (omega arith)))
            (λ e. rw (e, get_or-insert_at xs k x d free.bound) filled)
            (λ u. rw (insert_below xs k x d i free.bound u) (h.filled (i - 1) d (omega arith)));
        apart = λ i j d less low. split k i
            (λ l. split k j
            (λ m. rw (get_or-insert_below xs k x d i l free.bound, get_or-insert_below xs k x d j m free.bound) (h.apart i j d less (omega arith)))
            (λ e. rw (get_or-insert_below xs k x d i l free.bound, e, get_or-insert_at xs k x d free.bound) (free.below i d l))
            (λ u. rw (get_or-insert_below xs k x d i l free.bound, insert_below xs k x d j free.bound u) (h.apart i (j - 1) d (omega arith) (omega arith))))
            (λ e. rw (e, get_or-insert_at xs k x d free.bound, insert_below xs k x d j free.bound (omega arith)) (free.above (j - 1) d (omega arith) (omega arith)))
            (λ u. rw (insert_below xs k x d i free.bound u, insert_below xs k x d j free.bound (omega arith)) (h.apart (i - 1) (j - 1) d (omega arith) (omega arith)));
      }

  pub removed : (xs : List (HeldValue S)) (k : ℕ) → k < length xs → IsApart xs → IsApart (remove xs k)
  removed xs k low h =
      let n = length-remove xs k low in
      record {
        filled = λ i d l. let r = remove_is xs k i d low in rw r.3 (h.filled r.0 d (omega (arith, r.1, r.2)));
        apart = all_pairs_remove (λ a b. Before a.span b.span) xs k low h.apart;
      }

  -- the runs from m on start no earlier than m
  pub starts : (xs : List (HeldValue S)) → IsApart xs → (m k : ℕ) (d : HeldValue S) → m ≤ k → k < length xs → (get_or xs m d).span.start ≤ (get_or xs k d).span.start
  starts xs h m k d le low = dite (ℕ_discrete m k) (λ e. rw e (omega arith)) (λ ne. omega (arith, h.apart m k d (omega arith) low, h.filled m d (omega arith)))

  pub no_overlap : (xs : List (HeldValue S)) → IsApart xs → (a : Span) (m : ℕ) → ((k : ℕ) (d : HeldValue S) → k < m → (get_or xs k d).span.end ≤ a.start) → ((d : HeldValue S) → m < length xs → a.end ≤ (get_or xs m d).span.start) → NoOverlap xs a
  no_overlap xs h a m below above k d low o = dite (dec_lt k m) (λ l. omega (arith, below k d l, o.1)) (λ n. omega (arith, above d (omega arith), starts xs h m k d (omega arith) low, o.0))

  pub is_free : (xs : List (HeldValue S)) → IsApart xs → (a : Span) (m : ℕ) → m ≤ length xs → ((k : ℕ) (d : HeldValue S) → k < m → (get_or xs k d).span.end < a.start) → ((d : HeldValue S) → m < length xs → a.end < (get_or xs m d).span.start) → IsFree xs a m
  is_free xs h a m bound below above = record {
    bound = bound;
    below = below;
    above = λ k d le low. omega (arith, above d (omega arith), starts xs h m k d le low);
  }

  pub no_left : (xs : List (HeldValue S)) → IsApart xs → (a : Span) (m : ℕ) → ((k : ℕ) (d : HeldValue S) → k < m → (get_or xs k d).span.end < a.start) → ((d : HeldValue S) → m < length xs → a.start < (get_or xs m d).span.end) → NoLeft xs a
  no_left xs h a m below above k d low e = dite (dec_lt k m) (λ l. omega (arith, below k d l, e)) (λ n.
      dite (ℕ_discrete k m) (λ same. let b : a.start < (get_or xs k d).span.end = rw same (above d (omega arith)) in omega (arith, e))
      (λ ne. omega (arith, above d (omega arith), h.apart m k d (omega arith) low, h.filled k d low, e)))

  pub up_to : (xs : List (HeldValue S)) (a : Span) (m : ℕ) → ((k : ℕ) (d : HeldValue S) → k < m → (get_or xs k d).span.end < a.start) → ((d : HeldValue S) → (get_or xs m d).span.end ≡ a.start) → (k : ℕ) (d : HeldValue S) → k < m + 1 → (get_or xs k d).span.end ≤ a.start
  up_to xs a m below here k d low = dite (dec_lt k m) (λ l. omega (arith, below k d l)) (λ n. let e : k ≡ m = omega arith in rw e (omega (arith, here d)))

  pub at_any : (xs : List (HeldValue S)) (k : ℕ) (x : HeldValue S) → k < length xs → x ≡ get_or xs k x → (d : HeldValue S) → get_or xs k d ≡ x
  at_any xs k x low e d = get_or_default xs k d x low ∙ sym e

  -- a run that keeps its span
  span_set : (xs : List (HeldValue S)) (k : ℕ) (x : HeldValue S) → k < length xs → ((d : HeldValue S) → x.span ≡ (get_or xs k d).span) → (i : ℕ) (d : HeldValue S) → (get_or (set xs k x) i d).span ≡ (get_or xs i d).span
  span_set xs k x low same i d = dite (ℕ_discrete i k)
      (λ e. rw (e, get_or-set_same xs k x d low) (same d))
      (λ ne. rw (get_or-set_other xs k i x d ne) refl)

  pub kept_apart : (xs : List (HeldValue S)) (k : ℕ) (x : HeldValue S) → k < length xs → ((d : HeldValue S) → x.span ≡ (get_or xs k d).span) → IsApart xs → IsApart (set xs k x)
  kept_apart xs k x low same h =
      let n = length-set xs k x in
      let at = span_set xs k x low same in
      record {
        filled = λ i d l. rw (at i d) (h.filled i d (omega arith));
        apart = λ i j d less l. rw (at i d, at j d) (h.apart i j d less (omega arith));
      }

  pub kept_sum : (xs : List (HeldValue S)) (k : ℕ) (x d : HeldValue S) → k < length xs → x.span ≡ (get_or xs k d).span → sum_by run_len (set xs k x) ≡ sum_by run_len xs
  kept_sum xs k x d low same = omega (arith, sum_by-set run_len xs k x d low, ap (λ (p : Span). p.end - p.start) same)

  -- later runs end later
  pub ends_rise : (xs : List (HeldValue S)) → IsApart xs → (k m : ℕ) (d : HeldValue S) → k ≤ m → m < length xs → (get_or xs k d).span.end ≤ (get_or xs m d).span.end
  ends_rise xs h k m d le low = dite (ℕ_discrete k m) (λ e. rw e (omega arith)) (λ ne. omega (arith, h.apart k m d (omega arith) low, h.filled m d low))

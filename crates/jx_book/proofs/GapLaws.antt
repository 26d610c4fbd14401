-- The gaps that runs in rising order leave.
use Rattle.std.proofs.Common.{◌≡◌, ◌⊎◌, ℕ, zero, suc, ◌<◌, ◌≤◌, true, false, List, [], ◌∷◌, length, get_or, refl, sym, ap, subst, ⊎_elim, inl, inr, arith}
use Rattle.std.specs.Prelude.{All, AllPairs, Any, min, max, nat_lt}
use mathlib.Core.Logic.{dite}
use native.Mathlib.Decide.{dec_lt}
use Rattle.std.proofs.lemmas.Bool.Decides.{nat_tests}
use Rattle.std.proofs.lemmas.List.Elements.{All-cons, All-nil}
use Rattle.std.proofs.lemmas.List.Kept.{AllPairs-cons}
use Rattle.jx_summary.specs.declared.span.Span.{Span}
use Rattle.jx_book.specs.Spans.{span, Before}
use Rattle.jx_book.specs.Runs.{HeldValue, IsApart, spans_of}
use Rattle.jx_book.specs.Gaps.{Covers, AreGaps, gaps_from}

any_first : {X : Type 0} (P : X → Type 0) (x : X) (xs : List X) → P x → Any P (x ∷ xs)
any_first P x xs h = (0, x, omega arith, refl, h)

any_later : {X : Type 0} (P : X → Type 0) (x : X) (xs : List X) → Any P xs → Any P (x ∷ xs)
any_later P x xs (k, y, low, is, h) = (suc k, y, omega arith, is, h)

any_cons : {X : Type 0} (P : X → Type 0) (x : X) (xs : List X) → Any P (x ∷ xs) → P x ⊎ Any P xs
any_cons P x xs (zero, y, low, is, h) = inl (subst P (sym is) h)
any_cons P x xs (suc k, y, low, is, h) = inr (k, y, omega arith, is, h)

any_none : {X : Type 0} (P : X → Type 0) → ¬ (Any P [])
any_none P (k, y, low, is, h) = absurd (omega arith)

-- the runs are not empty, and each begins where the one before ends or behind that
abbrev Rising : ℕ → List Span → Type 0
Rising at [] = Unit {0}
Rising at (r ∷ rs) = (at ≤ r.start) × (r.start < r.end) × Rising r.end rs

rising_behind : (at : ℕ) (rs : List Span) → Rising at rs → All (λ (r : Span). at ≤ r.start) rs
rising_behind at [] h = All-nil (λ (r : Span). at ≤ r.start)
rising_behind at (r ∷ rs) h = All-cons (λ (s : Span). at ≤ s.start) r rs h.0 (λ k d l. omega (arith, h, rising_behind r.end rs h.2 k d l))

-- gaps from an offset on
record AreFrom (at : ℕ) (rs : List Span) (end : ℕ) (gs : List Span) : Type 0 where
  filled : All (λ (g : Span). g.start < g.end) gs
  behind : All (λ (g : Span). at ≤ g.start) gs
  apart : AllPairs (λ (g h : Span). Before g h) gs
  inside : (p : ℕ) → Any (λ (g : Span). Covers g p) gs → (p < end) × All (λ (r : Span). ¬ (Covers r p)) rs
  found : (p : ℕ) → at ≤ p → p < end → All (λ (r : Span). ¬ (Covers r p)) rs → Any (λ (g : Span). Covers g p) gs

is_lt : (a b : ℕ) → a < b → nat_lt a b ≡ true
is_lt a b h = grind (arith, nat_tests)

not_lt : (a b : ℕ) → b ≤ a → nat_lt a b ≡ false
not_lt a b h = grind (arith, nat_tests)

no_gaps : (at end : ℕ) → end ≤ at → AreFrom at [] end []
no_gaps at end h = record {
  filled = All-nil (λ (g : Span). g.start < g.end);
  behind = All-nil (λ (g : Span). at ≤ g.start);
  apart = λ i j d less low. absurd (omega arith);
  inside = λ p a. absurd (any_none (λ (g : Span). Covers g p) a);
  found = λ p le lt none. absurd (omega arith);
}

-- what lies in gaps from an offset on lies there
lies_behind : (at p : ℕ) (gs : List Span) → All (λ (g : Span). at ≤ g.start) gs → Any (λ (g : Span). Covers g p) gs → at ≤ p
lies_behind at p gs behind (k, y, low, is, h) = omega (arith, behind k y low, h.0, ap (λ (g : Span). g.start) is)

-- the gaps behind a run, with that run
past : (at before : ℕ) (r : Span) (rs : List Span) (end : ℕ) (gs : List Span) → Rising before (r ∷ rs) → min r.start end ≤ at → AreFrom (max at r.end) rs end gs → AreFrom at (r ∷ rs) end gs
past at before r rs end gs h over t = record {
  filled = t.filled;
  behind = λ k d l. omega (arith, t.behind k d l);
  apart = t.apart;
  inside = λ p a. let i = t.inside p a in let b = lies_behind (max at r.end) p gs t.behind a in (i.0, All-cons (λ (s : Span). ¬ (Covers s p)) r rs (λ c. omega (arith, c, b)) i.1);
  found = λ p le lt none. dite (dec_lt p r.end)
      (λ less. absurd (none 0 r (omega arith) (omega (arith, le, lt, over), less)))
      (λ not. t.found p (omega arith) lt (λ k d l. none (suc k) d (omega arith)));
}

-- the gap before a run, and those behind it
more : (at before : ℕ) (r : Span) (rs : List Span) (end : ℕ) (gs : List Span) → Rising before (r ∷ rs) → at < min r.start end → AreFrom (max at r.end) rs end gs → AreFrom at (r ∷ rs) end (span at (min r.start end) ∷ gs)
more at before r rs end gs h room t =
    let g : Span = span at (min r.start end) in
    record {
      filled = All-cons (λ (x : Span). x.start < x.end) g gs room t.filled;
      behind = All-cons (λ (x : Span). at ≤ x.start) g gs (omega arith) (λ k d l. omega (arith, t.behind k d l));
      apart = AllPairs-cons (λ (x y : Span). Before x y) g gs (λ k d l. omega (arith, h.1, t.behind k d l)) t.apart;
      inside = λ p a. ⊎_elim
          (λ (c : Covers g p). let low : p < min r.start end = c.1 in (
            omega arith,
            All-cons (λ (s : Span). ¬ (Covers s p)) r rs (λ o. omega (arith, o)) (λ k d l o. omega (arith, h.1, o, rising_behind r.end rs h.2 k d l)),
          ))
          (λ (b : Any (λ (x : Span). Covers x p) gs). let i = t.inside p b in let q = lies_behind (max at r.end) p gs t.behind b in (i.0, All-cons (λ (s : Span). ¬ (Covers s p)) r rs (λ c. omega (arith, c, q)) i.1))
          (any_cons (λ (x : Span). Covers x p) g gs a);
      found = λ p le lt none. dite (dec_lt p (min r.start end))
          (λ less. any_first (λ (x : Span). Covers x p) g gs (le, less))
          (λ not. dite (dec_lt p r.end)
          (λ less. absurd (none 0 r (omega arith) (omega arith, less)))
          (λ far. any_later (λ (x : Span). Covers x p) g gs (t.found p (omega (arith, le, far)) lt (λ k d l. none (suc k) d (omega arith)))));
    }

last_gap : (at end : ℕ) → at < end → AreFrom at [] end (span at end ∷ [])
last_gap at end h =
    let g : Span = span at end in
    record {
      filled = All-cons (λ (x : Span). x.start < x.end) g [] h (All-nil (λ (x : Span). x.start < x.end));
      behind = All-cons (λ (x : Span). at ≤ x.start) g [] (omega arith) (All-nil (λ (x : Span). at ≤ x.start));
      apart = λ i j d less low. absurd (omega arith);
      inside = λ p a. ⊎_elim
          (λ (c : Covers g p). (c.1, All-nil (λ (r : Span). ¬ (Covers r p))))
          (λ (b : Any (λ (x : Span). Covers x p) []). absurd (any_none (λ (x : Span). Covers x p) b))
          (any_cons (λ (x : Span). Covers x p) g [] a);
      found = λ p le lt none. any_first (λ (x : Span). Covers x p) g [] (le, lt);
    }

are_from : (at before : ℕ) (rs : List Span) (end : ℕ) → Rising before rs → AreFrom at rs end (gaps_from at rs end)
are_from at before [] end h = dite (dec_lt at end)
    (λ l. rw (is_lt at end l) (last_gap at end l))
    (λ n. rw (not_lt at end (omega arith)) (no_gaps at end (omega arith)))
are_from at before (r ∷ rs) end h =
    let t = are_from (max at r.end) r.end rs end h.2 in
    dite (dec_lt at (min r.start end))
    (λ l. rw (is_lt at (min r.start end) l) (more at before r rs end (gaps_from (max at r.end) rs end) h l t))
    (λ n. rw (not_lt at (min r.start end) (omega arith)) (past at before r rs end (gaps_from (max at r.end) rs end) h (omega arith) t))

module _ {S : Type 0} where
  rising : (at : ℕ) (xs : List (HeldValue S)) → IsApart xs → ((d : HeldValue S) → 0 < length xs → at ≤ (get_or xs 0 d).span.start) → Rising at (spans_of xs)
  rising at [] h from = tt
  rising at (x ∷ xs) h from = (
    from x (omega arith),
    h.filled 0 x (omega arith),
    rising x.span.end xs (record { filled = λ k d l. h.filled (suc k) d (omega arith); apart = λ i j d less l. h.apart (suc i) (suc j) d (omega arith) (omega arith) })
        (λ d l. omega (arith, h.apart 0 1 d (omega arith) (omega arith))),
  )

  pub are_gaps : (xs : List (HeldValue S)) (span : Span) → IsApart xs → AreGaps (spans_of xs) span (gaps_from span.start (spans_of xs) span.end)
  are_gaps xs span h =
      let gs : List Span = gaps_from span.start (spans_of xs) span.end in
      let t = are_from span.start 0 (spans_of xs) span.end (rising 0 xs h (λ d l. omega arith)) in
      record {
        filled = t.filled;
        apart = t.apart;
        uncovered = λ p. ((λ a. let i = t.inside p a in ((lies_behind span.start p gs t.behind a, i.0), i.1)), (λ c. t.found p c.0.0 c.0.1 c.1));
      }

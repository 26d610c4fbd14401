-- The parts of a text, read one after another.
use Rattle.std.proofs.Common.{◌≡◌, ℕ, zero, suc, ◌+◌, ◌-◌, ◌<◌, ◌≤◌, List, [], ◌∷◌, ◌++◌, length, take, drop, get_or, Bool, true, false, cond, refl, sym, ap, subst, ◌∙◌, arith}
use Rattle.std.specs.List.{AllZip}
use Rattle.std.specs.Prelude.{slice_range}
use Rattle.std.proofs.lemmas.Bool.Decides.{nat_tests}
use Rattle.std.proofs.lemmas.List.{append_assoc, append-nil, take-take, drop-take, drop-drop}
use Rattle.std.proofs.lemmas.List.Edits.{length-between}
use Rattle.std.proofs.lemmas.List.Elements.{filter-append}
use Rattle.jx_run.specs.Elements.{Part, part, is_separator, before_separator, after_separators, parts, filled, has_bytes}
use Rattle.jx_run.specs.Parted.{Meaning, IsMarked}
use Rattle.jx_run.proofs.Parts.{unmarked-before}
use Rattle.jx_run.proofs.PartedJoins.{AllZip-append}

-- ---- the first separator

abbrev pub HasNone : List ℕ → ℕ → Type 0
HasNone xs n = (k : ℕ) → k < n → is_separator (get_or xs k 0) ≡ true → ⊥

none_in_rest : (b : ℕ) (xs : List ℕ) (n : ℕ) → HasNone (b ∷ xs) (suc n) → HasNone xs n
none_in_rest b xs n h k low = h (suc k) (omega arith)

pub none-after : (xs : List ℕ) (at : ℕ) → HasNone xs (length xs) → after_separators at xs ≡ []
none-after [] at h = refl
none-after (b ∷ xs) at h = pick (is_separator b) (h 0 (omega arith)) (none-after xs (suc at) (none_in_rest b xs (length xs) h))
  where
    pick : (m : Bool) → (m ≡ true → ⊥) → after_separators (suc at) xs ≡ []
        → cond m (part (suc at) (before_separator xs) ∷ after_separators (suc at) xs) (after_separators (suc at) xs) ≡ []
    pick true away more = absurd (away refl)
    pick false away more = more

pub first-before : (xs : List ℕ) (k : ℕ) → k < length xs → HasNone xs k → is_separator (get_or xs k 0) ≡ true → before_separator xs ≡ take k xs
first-before [] k low h m = absurd (omega arith)
first-before (b ∷ xs) zero low h m = ap (λ t. cond t [] (b ∷ before_separator xs)) m
first-before (b ∷ xs) (suc k) low h m = pick (is_separator b) (h 0 (omega arith)) (first-before xs k (omega arith) (none_in_rest b xs k h) m)
  where
    pick : (t : Bool) → (t ≡ true → ⊥) → before_separator xs ≡ take k xs → cond t [] (b ∷ before_separator xs) ≡ b ∷ take k xs
    pick true away more = absurd (away refl)
    pick false away more = ap (λ ys. b ∷ ys) more

pub first-after : (xs : List ℕ) (k at : ℕ) → k < length xs → HasNone xs k → is_separator (get_or xs k 0) ≡ true
    → after_separators at xs ≡ parts (at + k + 1) (drop (suc k) xs)
first-after [] k at low h m = absurd (omega arith)
first-after (b ∷ xs) zero at low h m =
    let e : suc at ≡ at + 0 + 1 = omega arith in
    ap (λ t. cond t (parts (suc at) xs) (after_separators (suc at) xs)) m ∙ ap (λ n. parts n xs) e
first-after (b ∷ xs) (suc k) at low h m =
    let e : suc at + k + 1 ≡ at + suc k + 1 = omega arith in
    pick (is_separator b) (h 0 (omega arith)) (first-after xs k (suc at) (omega arith) (none_in_rest b xs k h) m) ∙ ap (λ n. parts n (drop (suc k) xs)) e
  where
    pick : (t : Bool) → (t ≡ true → ⊥) → after_separators (suc at) xs ≡ parts (suc at + k + 1) (drop (suc k) xs)
        → cond t (part (suc at) (before_separator xs) ∷ after_separators (suc at) xs) (after_separators (suc at) xs) ≡ parts (suc at + k + 1) (drop (suc k) xs)
    pick true away more = absurd (away refl)
    pick false away more = more

-- ---- parts of a slice

pub slice-take : (text : List ℕ) (i j k : ℕ) → i + k ≤ j → take k (slice_range text i j) ≡ slice_range text i (i + k)
slice-take text i j k h =
    let low : k ≤ j - i = omega arith in
    let same : k ≡ (i + k) - i = omega arith in
    take-take k (j - i) (drop i text) low ∙ ap (λ n. take n (drop i text)) same

pub slice-drop : (text : List ℕ) (i j k : ℕ) → i + k ≤ j → drop k (slice_range text i j) ≡ slice_range text (i + k) j
slice-drop text i j k h =
    let long : j - i ≡ k + (j - (i + k)) = omega arith in
    ap (λ n. drop k (take n (drop i text))) long
    ∙ drop-take k (j - (i + k)) (drop i text)
    ∙ ap (take (j - (i + k))) (drop-drop k i text)

-- ---- the loop

-- the parts before the rest are read
pub record IsReadTo {D : Type 0} (R : Part → D → Type 0) (all rest : List Part) (done : List D) : Type 0 where
  pub between : List Part
  pub are : all ≡ between ++ rest
  pub readings : AllZip R (filled between) done

filled-push : (ps : List Part) (p : Part) → filled (ps ++ p ∷ []) ≡ filled ps ++ filled (p ∷ [])
filled-push ps p = filter-append has_bytes ps (p ∷ [])

pub read_more : {D : Type 0} (R : Part → D → Type 0) (all rest : List Part) (p : Part) (done more : List D) → IsReadTo R all (p ∷ rest) done
    → AllZip R (filled (p ∷ [])) more → IsReadTo R all rest (done ++ more)
read_more R all rest p done more h k =
    record {
      between = h.between ++ p ∷ [];
      are = h.are ∙ sym (append_assoc h.between (p ∷ []) rest);
      readings =
          subst (λ ps. AllZip R ps (done ++ more)) (sym (filled-push h.between p))
          (AllZip-append R (filled h.between) (filled (p ∷ [])) done more h.readings k);
    }

abbrev pub these : Bool → Part → List Part
these b p = cond b (p ∷ []) []

pub has : (p : Part) → 0 < length p.bytes → has_bytes p ≡ true
has p h = grind (arith, nat_tests)

pub has_not : (p : Part) → length p.bytes ≡ 0 → has_bytes p ≡ false
has_not p h = grind (arith, nat_tests)

pub one_reading : {D : Type 0} (R : Part → D → Type 0) (p : Part) (s : D) → 0 < length p.bytes → R p s → AllZip R (filled (p ∷ [])) (s ∷ [])
one_reading R p s h k = subst (λ b. AllZip R (these b p) (s ∷ [])) (sym (has p h)) (k, tt)

pub no_reading : {D : Type 0} (R : Part → D → Type 0) (p : Part) → length p.bytes ≡ 0 → AllZip R (filled (p ∷ [])) []
no_reading R p h = subst (λ b. AllZip R (these b p) []) (sym (has_not p h)) tt

-- the parts from here on, where the next separator is at `at`
abbrev pub rest_at : List ℕ → ℕ → ℕ → List Part
rest_at text from end = parts from (slice_range text from end)

next_parts : (text : List ℕ) (from at end : ℕ) → before_separator (slice_range text from end) ≡ slice_range text from at
    → after_separators from (slice_range text from end) ≡ rest_at text (at + 1) end → rest_at text from end ≡ part from (slice_range text from at) ∷ rest_at text (at + 1) end
next_parts text from at end h k = ap (λ t. part from t ∷ after_separators from (slice_range text from end)) h ∙ ap (λ ps. part from (slice_range text from at) ∷ ps) k

module _ {D : Type 0} (R : Part → D → Type 0) (text : List ℕ) (start from at end : ℕ) (done : List D) where
  pub read_one : (s : D) → from < at → at ≤ length text → before_separator (slice_range text from end) ≡ slice_range text from at
      → after_separators from (slice_range text from end) ≡ rest_at text (at + 1) end → R (part from (slice_range text from at)) s
      → IsReadTo R (rest_at text start end) (rest_at text from end) done → IsReadTo R (rest_at text start end) (rest_at text (at + 1) end) (done ++ s ∷ [])
  read_one s low high h k r so_far =
      let long : length (slice_range text from at) ≡ at - from = length-between text from at high in
      read_more R (rest_at text start end) (rest_at text (at + 1) end) (part from (slice_range text from at)) done (s ∷ [])
      (subst (λ ps. IsReadTo R (rest_at text start end) ps done) (next_parts text from at end h k) so_far)
      (one_reading R (part from (slice_range text from at)) s (omega arith) r)

  pub read_none : at ≤ from → at ≤ length text → before_separator (slice_range text from end) ≡ slice_range text from at
      → after_separators from (slice_range text from end) ≡ rest_at text (at + 1) end
      → IsReadTo R (rest_at text start end) (rest_at text from end) done → IsReadTo R (rest_at text start end) (rest_at text (at + 1) end) done
  read_none low high h k so_far =
      let long : length (slice_range text from at) ≡ at - from = length-between text from at high in
      let none : length (slice_range text from at) ≡ 0 = omega arith in
      subst (IsReadTo R (rest_at text start end) (rest_at text (at + 1) end)) (append-nil done)
      (read_more R (rest_at text start end) (rest_at text (at + 1) end) (part from (slice_range text from at)) done []
      (subst (λ ps. IsReadTo R (rest_at text start end) ps done) (next_parts text from at end h k) so_far)
      (no_reading R (part from (slice_range text from at)) none))

pub read_all : {P F : Type 0} (m : Meaning P F) (limit : ℕ) (text : List ℕ) (start from end : ℕ) (done : List F) (after : P) → 0 < from → after_separators from (slice_range text from end) ≡ []
    → (m.span after).start ≡ from → m.depth after ≡ limit → m.is_of after (slice_range text from end)
    → IsReadTo (m.is_finished limit) (rest_at text start end) (rest_at text from end) done → IsMarked m limit (rest_at text start end) (record { done = done; after = after })
read_all m limit text start from end done after low none here deep of so_far =
    record {
      between = so_far.between;
      last = part from (before_separator (slice_range text from end));
      parts = so_far.are ∙ ap (λ ps. so_far.between ++ part from (before_separator (slice_range text from end)) ∷ ps) none;
      done = so_far.readings;
      marked = low;
      start = here;
      depth = deep;
      after = subst (λ t. m.is_of after t) (sym (unmarked-before (slice_range text from end) from none)) of;
    }

-- Bytes that keep the state, or lead back to it, with no event may be passed over.
use Rattle.std.proofs.Common.{◌≡◌, ℕ, zero, suc, ◌+◌, ◌-◌, ◌<◌, ◌≤◌, Bool, true, false, not, List, [], ◌∷◌, ◌++◌, length, take, drop, get_or, refl, ap, sym, subst, ◌∙◌, arith}
use Rattle.std.specs.Prelude.{slice_range}
use Rattle.std.specs.Simd.Lanes.{chunk}
use Rattle.std.specs.Slice.Scan.{IsFirstPlace}
use Rattle.std.proofs.lemmas.List.{get_or-drop}
use Rattle.std.proofs.lemmas.Bool.{not-false}
use Rattle.std.proofs.lemmas.Bool.Decides.{nat_tests}
use Rattle.jx_lex.specs.declared.alphabet.class.Class.{Class}
use Rattle.jx_lex.specs.declared.alphabet.class.Class.TheVariants as class
use Rattle.jx_lex.specs.declared.alphabet.state.LexState.{LexState}
use Rattle.jx_lex.specs.declared.alphabet.state.LexState.TheVariants as state
use Rattle.jx_lex.specs.declared.alphabet.state.Step.{Step}
use Rattle.jx_lex.specs.Classes.{class_at, all_classes, first_with}
use Rattle.jx_lex.specs.Moves.{move, go}
use Rattle.jx_lex.specs.Lex.{Track, lex, after_step, on_next}
use Rattle.jx_lex.specs.Uneventful.{AllKeep, Leads, is_plain, is_digit, is_blank}
use Rattle.jx_lex.proofs.ClassTable.{all_below, all_below-at, implies, implies-use}
use Rattle.jx_lex.proofs.Slices.{slice-split}
use Rattle.jx_lex.proofs.Forward.{AllStep, is_one_of, row-one_of, ordinary_classes, all_ordinary}

-- ---- reading over a run

step-goes : (s : LexState) (at : ℕ) (more : LexState → Track) (m : Step) → m ≡ go s → after_step m at (on_next m.next at more) ≡ more s
step-goes s at more m e = ap (λ (m : Step). after_step m at (on_next m.next at more)) e

-- bytes that lead from a state to another with no event may be passed over
pub lex-leads : (s t : LexState) (at : ℕ) (u v : List ℕ) → Leads s u t → lex s at (u ++ v) ≡ lex t (at + length u) v
unfolding lex
lex-leads s t at [] v h = let e : at ≡ at + 0 = omega arith in ap (λ n. lex s n v) e ∙ ap (λ s. lex s (at + 0) v) h
lex-leads s t at (b ∷ u) v h =
    step-goes h.0 at (λ next. lex next (suc at) (u ++ v)) (move s b) h.1
    ∙ lex-leads h.0 t (suc at) u v h.2
    ∙ (let e : suc at + length u ≡ at + suc (length u) = omega arith in ap (λ n. lex t n v) e)

-- bytes that keep the state lead back to it
pub AllKeep-leads : (s : LexState) (u : List ℕ) → AllKeep s u → Leads s u s
AllKeep-leads s [] h = refl
AllKeep-leads s (b ∷ u) h = (s, h.0, AllKeep-leads s u h.1)

-- bytes that keep the state and have no event may be passed over
pub lex-keeps : (s : LexState) (at : ℕ) (u v : List ℕ) → AllKeep s u → lex s at (u ++ v) ≡ lex s (at + length u) v
lex-keeps s at u v h = lex-leads s s at u v (AllKeep-leads s u h)

pub Leads-append : (s t r : LexState) (u v : List ℕ) → Leads s u t → Leads t v r → Leads s (u ++ v) r
Leads-append s t r [] v h k = subst (λ s. Leads s v r) (sym h) k
Leads-append s t r (b ∷ u) v h k = (h.0, h.1, Leads-append h.0 t r u v h.2 k)

-- ---- stretches of bytes of a set

-- where the rows of the classes keep the state, so does a byte of these classes
pub keeps_class : (p : ℕ → Bool) (s : LexState) (ks : List Class) → AllStep s (go s) ks
    → all_below 256 (λ b. implies (p b) (is_one_of (first_with all_classes b) ks)) ≡ true → (b : ℕ) → b < 256 → not (p b) ≡ false → move s b ≡ go s
unfolding class_at
keeps_class p s ks all tested b lt h =
    row-one_of s (go s) (class_at b) ks all (implies-use (p b) _ (all_below-at (λ b. implies (p b) (is_one_of (first_with all_classes b) ks)) 256 tested b lt) (not-false (p b) h))

AllKeep-take : (s : LexState) (n : ℕ) (ys : List ℕ) → ((k : ℕ) → k < n → move s (get_or ys k 0) ≡ go s) → AllKeep s (take n ys)
AllKeep-take s zero ys h = tt
AllKeep-take s (suc n) [] h = tt
AllKeep-take s (suc n) (y ∷ ys) h = (h 0 (omega arith), AllKeep-take s n ys (λ k lt. h (suc k) (omega arith)))

-- a run up to the first byte that fails the test
pub AllKeep-run : (p : ℕ → Bool) (s : LexState) → ((b : ℕ) → not (p b) ≡ false → move s b ≡ go s)
    → (xs : List ℕ) (from to r : ℕ) → IsFirstPlace (λ k. not (p (get_or xs k 0))) from to r → AllKeep s (slice_range xs from r)
AllKeep-run p s keeps xs from to r first =
    AllKeep-take s (r - from) (drop from xs)
    (λ k lt. subst (λ b. move s b ≡ go s) (sym (get_or-drop from xs k 0)) (keeps (get_or xs (from + k) 0) (first.before (from + k) (omega arith) (omega (arith, lt)))))

plain_small : (b : ℕ) → is_plain b ≡ true → b < 256
plain_small b h = grind (arith, nat_tests)

digit_small : (b : ℕ) → is_digit b ≡ true → b < 256
digit_small b h = grind (arith, nat_tests)

blank_small : (b : ℕ) → is_blank b ≡ true → b < 256
blank_small b h = grind (arith, nat_tests)

pub plain_keeps : (b : ℕ) → not (is_plain b) ≡ false → move state.Str b ≡ go state.Str
plain_keeps b h = keeps_class is_plain state.Str ordinary_classes all_ordinary refl b (plain_small b (not-false _ h)) h

digit_keeps : (s : LexState) → AllStep s (go s) (class.Zero ∷ class.Digit ∷ []) → (b : ℕ) → not (is_digit b) ≡ false → move s b ≡ go s
digit_keeps s all b h = keeps_class is_digit s (class.Zero ∷ class.Digit ∷ []) all refl b (digit_small b (not-false _ h)) h

blank_keeps : (b : ℕ) → not (is_blank b) ≡ false → move state.Gap b ≡ go state.Gap
blank_keeps b h = keeps_class is_blank state.Gap (class.Blank ∷ class.Space ∷ []) (refl, (refl, tt)) refl b (blank_small b (not-false _ h)) h

pub plain_stretch : (xs : List ℕ) (from to r : ℕ) → IsFirstPlace (λ k. not (is_plain (get_or xs k 0))) from to r → AllKeep state.Str (slice_range xs from r)
plain_stretch = AllKeep-run is_plain state.Str plain_keeps

pub digit_stretch : (xs : List ℕ) (from to r : ℕ) → IsFirstPlace (λ k. not (is_digit (get_or xs k 0))) from to r
    → AllKeep state.Int (slice_range xs from r) × AllKeep state.Frac (slice_range xs from r) × AllKeep state.Exp (slice_range xs from r) × AllKeep state.Str (slice_range xs from r)
digit_stretch xs from to r first = (
  AllKeep-run is_digit state.Int (digit_keeps state.Int (refl, (refl, tt))) xs from to r first,
  AllKeep-run is_digit state.Frac (digit_keeps state.Frac (refl, (refl, tt))) xs from to r first,
  AllKeep-run is_digit state.Exp (digit_keeps state.Exp (refl, (refl, tt))) xs from to r first,
  AllKeep-run is_digit state.Str (digit_keeps state.Str (refl, (refl, tt))) xs from to r first,
)

pub blank_stretch : (xs : List ℕ) (from to r : ℕ) → IsFirstPlace (λ k. not (is_blank (get_or xs k 0))) from to r → AllKeep state.Gap (slice_range xs from r)
blank_stretch = AllKeep-run is_blank state.Gap blank_keeps

-- ---- stretches one after another

pub Leads-join : (xs : List ℕ) (a b c : ℕ) → a ≤ b → b ≤ c → Leads state.Str (slice_range xs a b) state.Str → Leads state.Str (slice_range xs b c) state.Str
    → Leads state.Str (slice_range xs a c) state.Str
Leads-join xs a b c low high h k = subst (λ l. Leads state.Str l state.Str) (sym (slice-split xs a b c low high)) (Leads-append state.Str state.Str state.Str (slice_range xs a b) (slice_range xs b c) h k)

pub take-again : (n m : ℕ) (xs : List ℕ) → n ≤ m → take n (take m xs) ≡ take n xs
take-again zero m xs le = refl
take-again (suc n) zero xs le = absurd (omega arith)
take-again (suc n) (suc m) [] le = refl
take-again (suc n) (suc m) (x ∷ xs) le = ap (λ l. x ∷ l) (take-again n m xs (omega arith))

take-short : (m : ℕ) (xs : List ℕ) → length (take m xs) ≤ m
take-short zero xs = omega arith
take-short (suc m) [] = omega arith
take-short (suc m) (x ∷ xs) = let rest = take-short m xs in omega (arith, rest)

-- a character of n bytes
pub char_leads : (xs : List ℕ) (i to n : ℕ) → n ≤ length (slice_range xs i to) → Leads state.Str (take n (slice_range xs i to)) state.Str → Leads state.Str (slice_range xs i (i + n)) state.Str
char_leads xs i to n within leads =
    let short = take-short (to - i) (drop i xs) in
    let e : i + n - i ≡ n = omega arith in
    let same : take n (slice_range xs i to) ≡ slice_range xs i (i + n) = take-again n (to - i) (drop i xs) (omega (arith, within, short)) ∙ ap (λ m. take m (drop i xs)) (sym e) in
    subst (λ l. Leads state.Str l state.Str) same leads

-- the first bytes of a block
pub block_leads : (xs : List ℕ) (i n m : ℕ) → n ≤ m → Leads state.Str (take n (chunk i m xs)) state.Str → Leads state.Str (slice_range xs i (i + n)) state.Str
block_leads xs i n m few leads =
    let e : i + n - i ≡ n = omega arith in
    subst (λ l. Leads state.Str l state.Str) (take-again n m (drop i xs) few ∙ ap (λ k. take k (drop i xs)) (sym e)) leads

pub plain_leads : (xs : List ℕ) (from r : ℕ) → AllKeep state.Str (slice_range xs from r) → Leads state.Str (slice_range xs from r) state.Str
plain_leads xs from r = AllKeep-leads state.Str (slice_range xs from r)

pub nothing_leads : (xs : List ℕ) (from : ℕ) → Leads state.Str (slice_range xs from from) state.Str
nothing_leads xs from = let e : from - from ≡ 0 = omega arith in subst (λ n. Leads state.Str (take n (drop from xs)) state.Str) (sym e) refl

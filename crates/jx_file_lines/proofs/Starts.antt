-- Where lines begin, in bytes that stand one behind another.
use Rattle.std.proofs.Common.{◌≡◌, ℕ, zero, suc, ◌+◌, ◌-◌, ◌<◌, ◌≤◌, Bool, true, false, cond, List, [], ◌∷◌, ◌++◌, length, take, drop, get_or, refl, sym, ◌∙◌, ap, arith, append-nil}
use Rattle.std.proofs.lemmas.List.{length-drop, length-take-le, take-append-drop}
use Rattle.std.proofs.lemmas.List.Sums.{sum_by-cons, sum_by-take-drop, sum_by-take-le}
use Rattle.std.proofs.Math.Seq.{take-add}
use Rattle.memchr.specs.Find.{NoneBefore, Nowhere, Passes, is_byte}
use Rattle.jx_file_lines.specs.Lines.{feeds_in, is_line_feed, line_start}
use Rattle.jx_file_lines.proofs.Entries.{feeds_append}

abbrev pub one : ℕ → ℕ
one byte = cond (is_line_feed byte) 1 0

pub feeds_cons : (b : ℕ) (xs : List ℕ) → feeds_in (b ∷ xs) ≡ one b + feeds_in xs
feeds_cons b xs = sum_by-cons one b xs

pub start_none : (xs : List ℕ) → line_start 0 xs ≡ 0
start_none [] = refl
start_none (b ∷ xs) = refl

within_by : (t : Bool) (n f p q r s : ℕ) → suc n ≤ cond t 1 0 + f → (n ≤ f → p ≡ q) → (suc n ≤ f → r ≡ s) → suc (cond t p r) ≡ suc (cond t q s)
within_by true n f p q r s h first other = ap suc (first (omega (arith, h)))
within_by false n f p q r s h first other = ap suc (other (omega (arith, h)))

-- behind line feeds of the bytes in front, what stands behind these changes nothing
pub start_within : (n : ℕ) (xs ys : List ℕ) → n ≤ feeds_in xs → line_start n (xs ++ ys) ≡ line_start n xs
start_within zero [] ys fits = start_none ys
start_within (suc n) [] ys fits = absurd (omega arith)
start_within zero (b ∷ xs) ys fits = refl
start_within (suc n) (b ∷ xs) ys fits =
    within_by (is_line_feed b) n (feeds_in xs) (line_start n (xs ++ ys)) (line_start n xs) (line_start (suc n) (xs ++ ys)) (line_start (suc n) xs) (let c = feeds_cons b xs in omega (arith, c, fits))
    (λ h. start_within n xs ys h) (λ h. start_within (suc n) xs ys h)

behind_by : (t : Bool) (n k f p r l : ℕ) → suc n ≡ (cond t 1 0 + f) + suc k → (n ≡ f + suc k → p ≡ l) → (suc n ≡ f + suc k → r ≡ l) → suc (cond t p r) ≡ suc l
behind_by true n k f p r l h first other = ap suc (first (omega (arith, h)))
behind_by false n k f p r l h first other = ap suc (other (omega (arith, h)))

-- behind more line feeds than they have, it is as many further on as they are
pub start_behind : (n k : ℕ) (xs ys : List ℕ) → n ≡ feeds_in xs + suc k → line_start n (xs ++ ys) ≡ length xs + line_start (suc k) ys
start_behind n k [] ys is = ap (λ (m : ℕ). line_start m ys) (let e : n ≡ suc k = omega (arith, is) in e) ∙ (let e : line_start (suc k) ys ≡ 0 + line_start (suc k) ys = omega arith in e)
start_behind zero k (b ∷ xs) ys is = absurd (omega (arith, is))
start_behind (suc n) k (b ∷ xs) ys is =
    behind_by (is_line_feed b) n k (feeds_in xs) (line_start n (xs ++ ys)) (line_start (suc n) (xs ++ ys)) (length xs + line_start (suc k) ys) (let c = feeds_cons b xs in omega (arith, c, is))
    (λ h. start_behind n k xs ys h) (λ h. start_behind (suc n) k xs ys h)
    ∙ (let e : suc (length xs + line_start (suc k) ys) ≡ suc (length xs) + line_start (suc k) ys = omega arith in e)

-- bytes with fewer line feeds end
pub start_past : (n : ℕ) (xs : List ℕ) → feeds_in xs < n → line_start n xs ≡ length xs
start_past n xs few =
    ap (λ (ys : List ℕ). line_start n ys) (sym (append-nil xs))
    ∙ start_behind n (n - suc (feeds_in xs)) xs [] (omega (arith, few))
    ∙ (let e : length xs + 0 ≡ length xs = omega arith in e)

-- ---- the first line feed

not_true : (b : Bool) → (b ≡ true → ⊥) → b ≡ false
not_true true h = absurd (h refl)
not_true false h = refl

pub none_told : (xs : List ℕ) → ((k : ℕ) → k < length xs → is_line_feed (get_or xs k 0) ≡ false) → feeds_in xs ≡ 0
none_told [] h = refl
none_told (b ∷ xs) h =
    let c = feeds_cons b xs in
    let f : one b ≡ 0 = ap (λ (t : Bool). cond {A = ℕ} t 1 0) (h 0 (omega arith)) in
    let r = none_told xs (λ k low. h (suc k) (omega (arith, low))) in
    omega (arith, c, f, r)

-- it ends the first line
pub record EndsFirst (xs : List ℕ) (k : ℕ) : Type 0 where
  pub start : line_start 1 xs ≡ suc k
  pub feeds : feeds_in (take (suc k) xs) ≡ 1

pub first_told : (k : ℕ) (xs : List ℕ) → k < length xs → ((j : ℕ) → j < k → is_line_feed (get_or xs j 0) ≡ false) → is_line_feed (get_or xs k 0) ≡ true → EndsFirst xs k
first_told k [] low before is = absurd (omega (arith, low))
first_told zero (b ∷ xs) low before is =
    let c = feeds_cons b [] in
    let f : one b ≡ 1 = ap (λ (t : Bool). cond {A = ℕ} t 1 0) is in
    record {
      start = ap (λ (t : Bool). suc (cond t (line_start 0 xs) (line_start 1 xs))) is ∙ ap suc (start_none xs);
      feeds = omega (arith, c, f);
    }
first_told (suc k) (b ∷ xs) low before is =
    let r = first_told k xs (omega (arith, low)) (λ j h. before (suc j) (omega (arith, h))) is in
    let not : is_line_feed b ≡ false = before 0 (omega arith) in
    let c = feeds_cons b (take (suc k) xs) in
    let f : one b ≡ 0 = ap (λ (t : Bool). cond {A = ℕ} t 1 0) not in
    let e = r.feeds in
    record {
      start = ap (λ (t : Bool). suc (cond t (line_start 0 xs) (line_start 1 xs))) not ∙ ap suc r.start;
      feeds = omega (arith, c, f, e);
    }

-- ---- one line feed more

-- so many bytes end with a line feed, or are none, and have so many
pub record IsBehind (bytes : List ℕ) (n at : ℕ) : Type 0 where
  pub within : at ≤ length bytes
  pub feeds : feeds_in (take at bytes) ≡ n
  pub start : line_start n bytes ≡ at

pub behind_none : (bytes : List ℕ) → IsBehind bytes 0 0
behind_none bytes = record { within = omega arith; feeds = refl; start = start_none bytes }

module _ (bytes : List ℕ) (n at : ℕ) (was : IsBehind bytes n at) where
  abbrev rest : List ℕ
  rest = drop at bytes

  pub behind_last : Nowhere (Passes (is_byte 10) rest) 0 (length rest) → feeds_in bytes ≡ n
  behind_last none =
      let all : feeds_in (take at bytes) + feeds_in rest ≡ feeds_in bytes = sum_by-take-drop one bytes at in
      let z = none_told rest (λ k low. not_true (is_line_feed (get_or rest k 0)) (none k (omega arith) low)) in
      let f = was.feeds in
      omega (arith, all, z, f)

  pub behind_more : (k : ℕ) → NoneBefore (Passes (is_byte 10) rest) 0 (length rest) k → Passes (is_byte 10) rest k → IsBehind bytes (suc n) (at + suc k)
  behind_more k before is =
      let first = first_told k rest before.high (λ j low. not_true (is_line_feed (get_or rest j 0)) (before.before j (omega arith) low)) is in
      let l : length rest ≡ length bytes - at = length-drop at bytes in
      let w = was.within in
      let h = before.high in
      let taken : feeds_in (take (at + suc k) bytes) ≡ feeds_in (take at bytes) + feeds_in (take (suc k) rest) = ap feeds_in (take-add at (suc k) bytes) ∙ feeds_append (take at bytes) (take (suc k) rest) in
      let f = was.feeds in
      let g = first.feeds in
      let t : length (take at bytes) ≡ at = length-take-le at bytes w in
      let b : line_start (suc n) (take at bytes ++ rest) ≡ length (take at bytes) + line_start 1 rest = start_behind (suc n) 0 (take at bytes) rest (omega (arith, f)) in
      let s = first.start in
      record {
        within = omega (arith, l, w, h);
        feeds = omega (arith, taken, f, g);
        start = ap (λ (xs : List ℕ). line_start (suc n) xs) (sym (take-append-drop at bytes)) ∙ (let e : line_start (suc n) (take at bytes ++ rest) ≡ at + suc k = omega (arith, b, t, s) in e);
      }

  pub behind_has : n ≤ feeds_in bytes
  behind_has = let f = was.feeds in let l : feeds_in (take at bytes) ≤ feeds_in bytes = sum_by-take-le one bytes at in omega (arith, f, l)

-- The bytes of all pieces.
use Rattle.std.proofs.Common.{◌≡◌, ◌≢◌, ℕ, zero, suc, ◌+◌, ◌<◌, cond, Bool, true, false, List, [], ◌∷◌, ◌++◌, length, refl, ap, ◌∙◌, arith}
use Rattle.std.specs.Prelude.{sum_by, nat_eq, if◌then◌else◌}
use mathlib.Core.Logic.{dite}
use native.Mathlib.Decide.{ℕ_discrete}
use Rattle.std.proofs.lemmas.List.Sums.{sum_by-cons, sum_by-append}
use Rattle.std.proofs.lemmas.Bool.Decides.{nat_tests}
use Rattle.jx_claim.specs.Claimed.{times, once_below, EachGotOnce}
use Rattle.jx_claim.specs.Claimed.{SeatValue}
use Rattle.jx_summary.specs.declared.span.Span.{Span}
use Rattle.jx_claim.specs.Cut.{Tiles, piece_len, drawn_len}

-- f 0 + .. + f (n - 1)
abbrev sum_to : (ℕ → ℕ) → ℕ → ℕ
sum_to f zero = 0
sum_to f (suc n) = sum_to f n + f n

sum_to_shift : (f : ℕ → ℕ) (n : ℕ) → sum_to f (suc n) ≡ f 0 + sum_to (λ k. f (suc k)) n
sum_to_shift f zero = omega arith
sum_to_shift f (suc n) = omega (arith, sum_to_shift f n)

-- the list without the first y
abbrev without : ℕ → List ℕ → List ℕ
without y [] = []
without y (x ∷ xs) = if nat_eq x y then xs else x ∷ without y xs

abbrev bit : Bool → ℕ
bit b = cond b 1 0

is_eq : (x y : ℕ) → x ≡ y → nat_eq x y ≡ true
is_eq x y e = grind (arith, nat_tests)

is_ne : (x y : ℕ) → x ≢ y → nat_eq x y ≡ false
is_ne x y e = grind (arith, nat_tests)

times_cons : (y x : ℕ) (xs : List ℕ) → times y (x ∷ xs) ≡ cond (nat_eq x y) 1 0 + times y xs
times_cons y x xs = sum_by-cons (λ z. cond (nat_eq z y) 1 0) x xs

taken_out : (f : ℕ → ℕ) (y : ℕ) (xs : List ℕ) → 0 < times y xs → sum_by f xs ≡ f y + sum_by f (without y xs)
taken_out f y [] h = absurd (omega arith)
taken_out f y (x ∷ xs) h = dite (ℕ_discrete x y)
    (λ e. rw (is_eq x y e) (omega (arith, sum_by-cons f x xs, ap f e)))
    (λ ne. let t : 0 < times y xs = omega (arith, times_cons y x xs, ap bit (is_ne x y ne)) in
    rw (is_ne x y ne) (omega (arith, sum_by-cons f x xs, sum_by-cons f x (without y xs), taken_out f y xs t)))

no_times : (xs : List ℕ) → ((x : ℕ) → times x xs ≡ 0) → xs ≡ []
no_times [] h = refl
no_times (y ∷ ys) h = absurd (omega (arith, h y, times_cons y y ys, ap bit (is_eq y y refl)))

once_here : (n : ℕ) → once_below n (suc n) ≡ 1
once_here n = grind (arith, nat_tests)

once_less : (x n : ℕ) → once_below x (suc n) ≡ cond (nat_eq n x) 1 0 + once_below x n
once_less x n = grind (arith, nat_tests)

once_none : (x : ℕ) → once_below x 0 ≡ 0
once_none x = grind (arith, nat_tests)

-- a list with each number below n once, and no other
pub counted : (f : ℕ → ℕ) (n : ℕ) (xs : List ℕ) → ((x : ℕ) → times x xs ≡ once_below x n) → sum_by f xs ≡ sum_to f n
counted f zero xs h = ap (sum_by f) (no_times xs (λ x. h x ∙ once_none x))
counted f (suc n) xs h =
    let here : 0 < times n xs = omega (arith, h n, once_here n) in
    let out = taken_out f n xs here in
    let rest = counted f n (without n xs) (λ x. omega (arith, taken_out (λ z. cond (nat_eq z x) 1 0) n xs here, h x, once_less x n)) in
    omega (arith, out, rest)

-- the numbers of all seats
abbrev all_got : List SeatValue → List ℕ
all_got [] = []
all_got (s ∷ ss) = s.got ++ all_got ss

sum_all : (f : ℕ → ℕ) (ss : List SeatValue) → sum_by f (all_got ss) ≡ sum_by (λ (s : SeatValue). sum_by f s.got) ss
sum_all f [] = refl
sum_all f (s ∷ ss) = omega (arith, sum_by-append f s.got (all_got ss), sum_by-cons (λ (t : SeatValue). sum_by f t.got) s ss, sum_all f ss)

covered : (a : ℕ) (ps : List Span) (b : ℕ) → Tiles a ps b → a + sum_to (piece_len ps) (length ps) ≡ b
covered a [] b c = omega (arith, c)
covered a (p ∷ ps) b c = omega (arith, sum_to_shift (piece_len (p ∷ ps)) (length ps), c.0, c.1, covered p.end ps b c.2)

-- where each piece was drawn once, the seats drew all bytes
pub all_bytes : (a : ℕ) (ps : List Span) (len : ℕ) (ss : List SeatValue) → Tiles a ps len → EachGotOnce ss (length ps) → a + sum_by (λ (s : SeatValue). drawn_len ps s.got) ss ≡ len
all_bytes a ps len ss c h =
    let once = counted (piece_len ps) (length ps) (all_got ss) (λ x. sum_all (λ z. cond (nat_eq z x) 1 0) ss ∙ h x) in
    omega (arith, sum_all (piece_len ps) ss, once, covered a ps len c)

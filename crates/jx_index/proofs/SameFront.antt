-- Equal bytes that stand for one unit each may be passed over in both strings.
use Rattle.std.proofs.Common.{◌≡◌, ◌≢◌, ℕ, suc, ◌+◌, ◌<◌, List, [], ◌∷◌, length, drop, true, false, refl, sym, ap, ap₂, ◌∙◌, arith, get_or, drop-cons}
use Rattle.std.specs.Prelude.{nat_lt, ◌==◌}
use Rattle.std.proofs.lemmas.Bool.Decides.{nat_tests}
use Rattle.std.specs.Ordering.{nat_cmp}
use Rattle.std.specs.Cmp.Lexicographic.{slice_cmp}
use Rattle.jx_index.specs.declared.units.Spelling.{Spelling}
use Rattle.jx_index.specs.declared.units.Spelling.TheVariants.{InText, InToken}
use Rattle.jx_index.specs.Units.{chars_units}

-- an ASCII byte that begins no escape, neither in a text nor in a token
plain_unit : (s : Spelling) (b : ℕ) (bytes : List ℕ) → b < 0x80 → b ≢ 0x5c → b ≢ 0x7e → chars_units s 0 (b ∷ bytes) ≡ b ∷ chars_units s 0 bytes
unfolding chars_units
plain_unit InText b bytes h n m =
    let e : (b == 0x5c) ≡ false = grind (arith, nat_tests) in
    let l : nat_lt b 0x80 ≡ true = grind (arith, nat_tests) in
    let w : nat_lt b 0x10000 ≡ true = grind (arith, nat_tests) in
    rw (e, l, w) refl
plain_unit InToken b bytes h n m =
    let e : (b == 0x7e) ≡ false = grind (arith, nat_tests) in
    let l : nat_lt b 0x80 ≡ true = grind (arith, nat_tests) in
    let w : nat_lt b 0x10000 ≡ true = grind (arith, nat_tests) in
    rw (e, l, w) refl

same_head : (b : ℕ) (us vs : List ℕ) → slice_cmp nat_cmp (b ∷ us) (b ∷ vs) ≡ slice_cmp nat_cmp us vs
same_head b us vs =
    let l : nat_lt b b ≡ false = grind (arith, nat_tests) in
    let e : (b == b) ≡ true = grind (arith, nat_tests) in
    rw (l, e) refl

pub front_more : (one other : Spelling) (xs ys : List ℕ) (at : ℕ) → at < length xs → at < length ys → get_or xs at 0 ≡ get_or ys at 0
    → get_or xs at 0 < 0x80 → get_or xs at 0 ≢ 0x5c → get_or xs at 0 ≢ 0x7e
    → slice_cmp nat_cmp (chars_units one 0 (drop at xs)) (chars_units other 0 (drop at ys)) ≡ slice_cmp nat_cmp (chars_units one 0 (drop (at + 1) xs)) (chars_units other 0 (drop (at + 1) ys))
front_more one other xs ys at h k e p n m =
    let s : suc at ≡ at + 1 = omega arith in
    let b = get_or xs at 0 in
    let u : chars_units one 0 (drop at xs) ≡ b ∷ chars_units one 0 (drop (suc at) xs) = ap (chars_units one 0) (drop-cons xs at 0 h) ∙ plain_unit one b (drop (suc at) xs) p n m in
    let v : chars_units other 0 (drop at ys) ≡ b ∷ chars_units other 0 (drop (suc at) ys) =
    ap (chars_units other 0) (drop-cons ys at 0 k ∙ ap (λ x. x ∷ drop (suc at) ys) (sym e)) ∙ plain_unit other b (drop (suc at) ys) p n m in
    ap₂ (slice_cmp nat_cmp) u v
    ∙ same_head b (chars_units one 0 (drop (suc at) xs)) (chars_units other 0 (drop (suc at) ys))
    ∙ ap (λ i. slice_cmp nat_cmp (chars_units one 0 (drop i xs)) (chars_units other 0 (drop i ys))) s

pub first_unit : (spelling : Spelling) (bytes : List ℕ) → 0 < length bytes → get_or bytes 0 0 < 0x80 → get_or bytes 0 0 ≢ 0x5c → get_or bytes 0 0 ≢ 0x7e
    → chars_units spelling 0 bytes ≡ get_or bytes 0 0 ∷ chars_units spelling 0 (drop 1 bytes)
first_unit spelling [] h p n m = absurd (omega (arith, h))
first_unit spelling (b ∷ bytes) h p n m = plain_unit spelling b bytes p n m

pub no_units : (s : Spelling) (bytes : List ℕ) → length bytes ≡ 0 → chars_units s 0 bytes ≡ []
unfolding chars_units
no_units s [] h = refl
no_units s (b ∷ bytes) h = absurd (omega (arith, h))

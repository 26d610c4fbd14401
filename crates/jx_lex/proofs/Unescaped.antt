-- Well-formed UTF-8 with no quotation mark, backslash or control character leads from inside a string back to there.
use Rattle.std.proofs.Common.{◌≡◌, ℕ, zero, suc, ◌+◌, ◌-◌, ◌/◌, ◌<◌, ◌≤◌, true, not, List, [], ◌∷◌, ◌++◌, length, get_or, take, drop, refl, ap, sym, subst, ◌∙◌, inl, inr, arith, lt-ltb, le-ltb}
use Rattle.std.specs.Prelude.{◌&&◌, nat_le, nat_lt, slice_range}
use Rattle.std.specs.Str.{IsUtf8, IsCharBoundary}
use Rattle.std.specs.Slice.Scan.{IsFirstPlace}
use Rattle.std.proofs.lemmas.Bool.{cases_lt, and_parts, not-false}
use Rattle.std.proofs.lemmas.Bool.Decides.{nat_tests}
use Rattle.std.proofs.lemmas.List.{get_or-drop, drop-drop, drop-take}
use Rattle.std.proofs.lemmas.Simd.{get_or-chunk}
use Rattle.std.proofs.lemmas.Str.{encode_ascii, IsUtf8-between}
use lib.Utf8.{scalar, scalars, encode, encodes, next, scalar_cases}
use Rattle.jx_lex.specs.declared.alphabet.state.LexState.TheVariants as state
use Rattle.jx_lex.specs.Character.{IsWithin, IsTail}
use Rattle.jx_lex.specs.Uneventful.{Leads, is_unescaped}
use Rattle.jx_lex.proofs.ByteFacts.{IsOrdinary}
use Rattle.jx_lex.proofs.Forward.{Str-ordinary}
use Rattle.jx_lex.proofs.Running.{Leads-append, take-again}
use Rattle.jx_lex.proofs.Slices.{slice-length}
use Rattle.jx_lex.proofs.StringChars.{two_bytes_lead, three_bytes_lead, four_bytes_lead}

-- none of these bytes ends a stretch of characters
abbrev pub AllUnescaped : List ℕ → Type 0
AllUnescaped [] = Unit {0}
AllUnescaped (b ∷ bs) = (is_unescaped b ≡ true) × AllUnescaped bs

both-unescaped : (u v : List ℕ) → AllUnescaped (u ++ v) → AllUnescaped u × AllUnescaped v
both-unescaped [] v h = (tt, h)
both-unescaped (b ∷ u) v h = let p = both-unescaped u v h.1 in ((h.0, p.0), p.1)

-- ---- characters

ascii_leads : (c : ℕ) → c < 128 → is_unescaped c ≡ true → Leads state.Str (c ∷ []) state.Str
ascii_leads c low h =
    let ordinary : IsOrdinary c = record { from = grind (arith, nat_tests); to = omega arith; no_quote = λ e. grind (arith, nat_tests); no_backslash = λ e. grind (arith, nat_tests) } in
    (state.Str, Str-ordinary c ordinary, refl)

two : (c : ℕ) → 128 ≤ c → c < 2048 → encode c ≡ (192 + c / 64) ∷ next c ∷ []
unfolding encode
two c l h = rw (le-ltb c 128 l, lt-ltb c 2048 h)

three : (c : ℕ) → 2048 ≤ c → c < 65536 → encode c ≡ (224 + c / 4096) ∷ next (c / 64) ∷ next c ∷ []
unfolding encode
three c l h = rw (le-ltb c 128 (omega arith), le-ltb c 2048 l, lt-ltb c 65536 h)

four : (c : ℕ) → 65536 ≤ c → encode c ≡ (240 + c / 262144) ∷ next (c / 4096) ∷ next (c / 64) ∷ next c ∷ []
unfolding encode
four c l = rw (le-ltb c 128 (omega arith), le-ltb c 2048 (omega arith), le-ltb c 65536 l)

tail_of : (n : ℕ) → IsTail (next n)
tail_of n = record { from = omega arith; to = omega arith }

two_leads : (c : ℕ) → 128 ≤ c → c < 2048 → Leads state.Str (encode c) state.Str
two_leads c l h =
    let lead : IsWithin 0xc2 0xdf (192 + c / 64) = record { from = omega arith; to = omega arith } in
    rw (two c l h) (two_bytes_lead (192 + c / 64) (next c) lead (tail_of c))

three_leads : (c : ℕ) → scalar c ≡ true → 2048 ≤ c → c < 65536 → Leads state.Str (encode c) state.Str
three_leads c ok l h =
    let range = scalar_cases c ok in
    rw (three c l h)
    (three_bytes_lead (224 + c / 4096) (next (c / 64)) (next c) (omega arith) (omega arith) (tail_of (c / 64)) (tail_of c) (λ e. omega arith) (λ e. omega arith))

four_leads : (c : ℕ) → scalar c ≡ true → 65536 ≤ c → Leads state.Str (encode c) state.Str
four_leads c ok l =
    let range = scalar_cases c ok in
    rw (four c l)
    (four_bytes_lead (240 + c / 262144) (next (c / 4096)) (next (c / 64)) (next c) (omega arith) (omega arith) (tail_of (c / 4096)) (tail_of (c / 64)) (tail_of c) (λ e. omega arith) (λ e. omega arith))

character_leads : (c : ℕ) → scalar c ≡ true → AllUnescaped (encode c) → Leads state.Str (encode c) state.Str
character_leads c ok all =
    elim (cases_lt c 128) [
      | inl a ↦ rw (encode_ascii c a) (ascii_leads c a ((subst AllUnescaped (encode_ascii c a) all).0))
      | inr a ↦ elim (cases_lt c 2048) [ inl b ↦ two_leads c a b | inr b ↦ elim (cases_lt c 65536) [ inl d ↦ three_leads c ok b d | inr d ↦ four_leads c ok d ] ]
    ]

characters_lead : (cs : List ℕ) → scalars cs ≡ true → AllUnescaped (encodes cs) → Leads state.Str (encodes cs) state.Str
characters_lead [] ok all = refl
characters_lead (c ∷ cs) ok all =
    let p = and_parts (scalar c) (scalars cs) ok in
    let q = both-unescaped (encode c) (encodes cs) all in
    Leads-append state.Str state.Str state.Str (encode c) (encodes cs) (character_leads c p.0 q.0) (characters_lead cs p.1 q.1)

pub utf8_leads : (bs : List ℕ) → IsUtf8 bs → AllUnescaped bs → Leads state.Str bs state.Str
utf8_leads bs u all =
    let e : encodes u.0 ≡ bs = u.1.1 in
    subst (λ l. Leads state.Str l state.Str) e (characters_lead u.0 u.1.0 (subst AllUnescaped (sym e) all))

-- ---- stretches in a text

take-unescaped : (n : ℕ) (ys : List ℕ) → ((k : ℕ) → k < n → is_unescaped (get_or ys k 0) ≡ true) → AllUnescaped (take n ys)
take-unescaped zero ys h = tt
take-unescaped (suc n) [] h = tt
take-unescaped (suc n) (y ∷ ys) h = (h 0 (omega arith), take-unescaped n ys (λ k lt. h (suc k) (omega arith)))

stretch-unescaped : (xs : List ℕ) (from to r : ℕ) → IsFirstPlace (λ k. not (is_unescaped (get_or xs k 0))) from to r → AllUnescaped (slice_range xs from r)
stretch-unescaped xs from to r first =
    take-unescaped (r - from) (drop from xs)
    (λ k lt. subst (λ b. is_unescaped b ≡ true) (sym (get_or-drop from xs k 0)) (not-false _ (first.before (from + k) (omega arith) (omega (arith, lt)))))

-- what ends the run is ASCII
end_low : (b : ℕ) → not (is_unescaped b) ≡ true → b < 128
end_low b h = grind (arith, nat_tests)

slice-slice : (xs : List ℕ) (a b i r : ℕ) → a ≤ i → i ≤ r → r ≤ b → take ((r - a) - (i - a)) (drop (i - a) (slice_range xs a b)) ≡ slice_range xs i r
slice-slice xs a b i r ai ir rb =
    let e : b - a ≡ (i - a) + (b - i) = omega arith in
    let f : a + (i - a) ≡ i = omega arith in
    let g : (r - a) - (i - a) ≡ r - i = omega arith in
    ap (λ n. take ((r - a) - (i - a)) (drop (i - a) (take n (drop a xs)))) e
    ∙ ap (λ l. take ((r - a) - (i - a)) l) (drop-take (i - a) (b - i) (drop a xs) ∙ ap (λ l. take (b - i) l) (drop-drop (i - a) a xs ∙ ap (λ n. drop n xs) f))
    ∙ ap (λ n. take n (take (b - i) (drop i xs))) g
    ∙ take-again (r - i) (b - i) (drop i xs) (omega arith)

-- a slice of a stretch that is well formed, from the first byte of a character on
pub stretch_led : (xs : List ℕ) (a b i r : ℕ) → a ≤ i → i < b → b ≤ length xs → IsUtf8 (slice_range xs a b) → 0xc0 ≤ get_or xs i 0
    → IsFirstPlace (λ k. not (is_unescaped (get_or xs k 0))) i b r → Leads state.Str (slice_range xs i r) state.Str
stretch_led xs a b i r ai ib within utf8 lead first =
    let w = slice_range xs a b in
    let long = slice-length xs a b (omega arith) within in
    let ir = first.low in
    let rb = first.high in
    let at_i : get_or w (i - a) 0 ≡ get_or xs i 0 = get_or-chunk a (b - a) xs (i - a) 0 (omega arith) ∙ (let e : a + (i - a) ≡ i = omega arith in ap (λ n. get_or xs n 0) e) in
    let begins : IsCharBoundary w (i - a) = (omega (arith, long), λ lt ge. omega (arith, at_i, lead)) in
    let ends : IsCharBoundary w (r - a) = (
      omega (arith, long),
      λ lt ge.
          let below : r < b = omega (arith, long, lt) in
          let at_r : get_or w (r - a) 0 ≡ get_or xs r 0 = get_or-chunk a (b - a) xs (r - a) 0 (omega arith) ∙ (let e : a + (r - a) ≡ r = omega arith in ap (λ n. get_or xs n 0) e) in
          let low = end_low (get_or xs r 0) (first.hit below) in
          absurd (omega (arith, at_r, low, ge)),
    ) in
    let middle : IsUtf8 (take ((r - a) - (i - a)) (drop (i - a) w)) = IsUtf8-between w (i - a) (r - a) utf8 (omega arith) begins ends in
    utf8_leads (slice_range xs i r) (subst IsUtf8 (slice-slice xs a b i r ai ir rb) middle) (stretch-unescaped xs i b r first)

-- the byte stands in a tested stretch
pub covered : (a b i to : ℕ) → (nat_le a i && nat_lt i b && nat_le b to) ≡ true → (a ≤ i) × (i < b)
covered a b i to h = (grind (arith, nat_tests), grind (arith, nat_tests))

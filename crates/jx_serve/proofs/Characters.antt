-- Text in UTF-8 in which each character may stand for itself is what a string has between its quotation marks.
use Rattle.std.proofs.Common.{◌≡◌, ◌≢◌, ℕ, ◌+◌, ◌/◌, ◌<◌, ◌≤◌, true, List, [], ◌∷◌, ◌++◌, refl, sym, ap, subst, ◌∙◌, inl, inr, arith, lt-ltb, le-ltb}
use Rattle.std.specs.Prelude.{IsUtf8}
use Rattle.std.specs.Char.Escape.{encode_utf16}
use Rattle.std.proofs.lemmas.Bool.{and_parts, cases_lt}
use Rattle.std.proofs.lemmas.Bool.Decides.{nat_tests}
use Rattle.std.proofs.lemmas.List.Folds.{list_all-append}
use Rattle.std.proofs.lemmas.Str.{encode_ascii}
use lib.Utf8.{scalar, scalars, encode, encodes, next, scalar_cases}
use Rattle.jx_lex.specs.Character.{IsTail, Utf8, one, two, three_e0, three_low, three_ed, three_high, four_f0, four_mid, four_f4}
use Rattle.jx_lex.specs.Token.{IsChar, character, Chars, no_chars, one_char, IsString, quoted}
use Rattle.jx_serve.specs.inside.Sound.{are_ordinary, is_ordinary, IsAString}

-- ---- the bytes of a character

of_two : (c : ℕ) → 128 ≤ c → c < 2048 → encode c ≡ (192 + c / 64) ∷ next c ∷ []
unfolding encode
of_two c l h = rw (le-ltb c 128 l, lt-ltb c 2048 h)

of_three : (c : ℕ) → 2048 ≤ c → c < 65536 → encode c ≡ (224 + c / 4096) ∷ next (c / 64) ∷ next c ∷ []
unfolding encode
of_three c l h = rw (le-ltb c 128 (omega arith), le-ltb c 2048 l, lt-ltb c 65536 h)

of_four : (c : ℕ) → 65536 ≤ c → encode c ≡ (240 + c / 262144) ∷ next (c / 4096) ∷ next (c / 64) ∷ next c ∷ []
unfolding encode
of_four c l = rw (le-ltb c 128 (omega arith), le-ltb c 2048 (omega arith), le-ltb c 65536 l)

tail_of : (n : ℕ) → IsTail (next n)
tail_of n = record { from = omega arith; to = omega arith }

as_is : {w v : List ℕ} {c d : ℕ} → Utf8 w c → w ≡ v → c ≡ d → Utf8 v d
as_is {v = v} {c = c} u e f = subst (λ (n : ℕ). Utf8 v n) f (subst (λ (l : List ℕ). Utf8 l c) e u)

two_bytes : (c : ℕ) → 128 ≤ c → c < 2048 → Utf8 (encode c) c
two_bytes c l h = as_is (two {a = 192 + c / 64} {b = next c} (record { from = omega arith; to = omega arith }) (tail_of c)) (sym (of_two c l h)) (omega arith)

three_bytes : (c : ℕ) → scalar c ≡ true → 2048 ≤ c → c < 65536 → Utf8 (encode c) c
three_bytes c ok l h =
    let range = scalar_cases c ok in
    let is = sym (of_three c l h) in
    let first : (n : ℕ) → c / 4096 ≡ n → (224 + n) ∷ next (c / 64) ∷ next c ∷ [] ≡ encode c = λ n e. ap (λ (k : ℕ). (224 + k) ∷ next (c / 64) ∷ next c ∷ []) (sym e) ∙ is in
    elim (cases_lt c 4096) [
      | inl a ↦ as_is (three_e0 {b = next (c / 64)} {c = next c} (record { from = omega arith; to = omega arith }) (tail_of c)) (first 0 (omega arith)) (omega arith)
      | inr a ↦ elim (cases_lt c 53248) [
        | inl b ↦ as_is (three_low {a = 224 + c / 4096} {b = next (c / 64)} {c = next c} (record { from = omega arith; to = omega arith }) (tail_of (c / 64)) (tail_of c)) is (omega arith)
        | inr b ↦ elim (cases_lt c 57344) [
          | inl d ↦ as_is (three_ed {b = next (c / 64)} {c = next c} (record { from = omega arith; to = omega (arith, range) }) (tail_of c)) (first 13 (omega arith)) (omega arith)
          | inr d ↦ as_is (three_high {a = 224 + c / 4096} {b = next (c / 64)} {c = next c} (record { from = omega arith; to = omega arith }) (tail_of (c / 64)) (tail_of c)) is (omega arith)
        ]
      ]
    ]

four_bytes : (c : ℕ) → scalar c ≡ true → 65536 ≤ c → Utf8 (encode c) c
four_bytes c ok l =
    let range = scalar_cases c ok in
    let is = sym (of_four c l) in
    let first : (n : ℕ) → c / 262144 ≡ n → (240 + n) ∷ next (c / 4096) ∷ next (c / 64) ∷ next c ∷ [] ≡ encode c =
    λ n e. ap (λ (k : ℕ). (240 + k) ∷ next (c / 4096) ∷ next (c / 64) ∷ next c ∷ []) (sym e) ∙ is in
    elim (cases_lt c 262144) [
      | inl a ↦ as_is (four_f0 {b = next (c / 4096)} {c = next (c / 64)} {d = next c} (record { from = omega arith; to = omega arith }) (tail_of (c / 64)) (tail_of c)) (first 0 (omega arith)) (omega arith)
      | inr a ↦ elim (cases_lt c 1048576) [
        | inl b ↦ as_is (four_mid {a = 240 + c / 262144} {b = next (c / 4096)} {c = next (c / 64)} {d = next c} (record { from = omega arith; to = omega arith }) (tail_of (c / 4096)) (tail_of (c / 64)) (tail_of c)) is (omega arith)
        | inr b ↦ as_is (four_f4 {b = next (c / 4096)} {c = next (c / 64)} {d = next c} (record { from = omega arith; to = omega (arith, range) }) (tail_of (c / 64)) (tail_of c)) (first 4 (omega (arith, range))) (omega (arith, range))
      ]
    ]

utf8_of : (c : ℕ) → scalar c ≡ true → Utf8 (encode c) c
utf8_of c ok =
    elim (cases_lt c 128) [
      | inl a ↦ as_is (one (omega arith)) (sym (encode_ascii c a)) refl
      | inr a ↦ elim (cases_lt c 2048) [ inl b ↦ two_bytes c a b | inr b ↦ elim (cases_lt c 65536) [ inl d ↦ three_bytes c ok b d | inr d ↦ four_bytes c ok d ] ]
    ]

-- ---- those that stand for themselves

above : (c : ℕ) → 128 ≤ c → (0x20 ≤ c) × ((c ≢ 0x22) × (c ≢ 0x5c))
above c h = (omega arith, (omega arith, omega arith))

ascii : (c : ℕ) → is_ordinary c ≡ true → (0x20 ≤ c) × ((c ≢ 0x22) × (c ≢ 0x5c))
ascii c h = (grind (arith, nat_tests), (grind (arith, nat_tests), grind (arith, nat_tests)))

first_of : (c : ℕ) → are_ordinary (c ∷ []) ≡ true → is_ordinary c ≡ true
first_of c h = (and_parts (is_ordinary c) true h).0

stands : (c : ℕ) → are_ordinary (encode c) ≡ true → (0x20 ≤ c) × ((c ≢ 0x22) × (c ≢ 0x5c))
stands c h =
    elim (cases_lt c 128) [
      | inl a ↦ ascii c (first_of c (subst (λ (w : List ℕ). are_ordinary w ≡ true) (encode_ascii c a) h))
      | inr a ↦ above c a
    ]

one_of : (c : ℕ) → scalar c ≡ true → are_ordinary (encode c) ≡ true → IsChar (encode c) (encode_utf16 c)
one_of c ok h = let s = stands c h in character (utf8_of c ok) s.0 s.1.0 s.1.1

all_of : (cs : List ℕ) → scalars cs ≡ true → are_ordinary (encodes cs) ≡ true → (units : List ℕ) × Chars (encodes cs) units
all_of [] ok h = ([], no_chars)
all_of (c ∷ cs) ok h =
    let p = and_parts (scalar c) (scalars cs) ok in
    let q = and_parts (are_ordinary (encode c)) (are_ordinary (encodes cs)) (sym (list_all-append is_ordinary (encode c) (encodes cs)) ∙ h) in
    let more = all_of cs p.1 q.1 in
    (encode_utf16 c ++ more.0, one_char (one_of c p.0 q.0) more.1)

pub a_text_string : (bytes inside : List ℕ) → bytes ≡ 0x22 ∷ (inside ++ (0x22 ∷ [])) → are_ordinary inside ≡ true → IsUtf8 inside → IsAString bytes
a_text_string bytes inside e h u =
    let chars = all_of u.0 u.1.0 (ap are_ordinary u.1.1 ∙ h) in
    (chars.0, subst (λ (w : List ℕ). IsString w chars.0) (sym e) (quoted (subst (λ (w : List ℕ). Chars w chars.0) u.1.1 chars.1)))

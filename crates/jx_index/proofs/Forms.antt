-- Each text that is read as a pointer has the form of one.
use Rattle.std.proofs.Common.{◌≡◌, ◌≢◌, ℕ, suc, ◌+◌, ◌-◌, ◌*◌, ◌/◌, ◌%◌, ◌<◌, ◌≤◌, true, List, [], ◌∷◌, ◌++◌, length, append_assoc, refl, sym, ap, subst, ◌∙◌, arith, get_or, IsUtf8, inl, inr, ◌⊎◌}
use Rattle.std.proofs.lemmas.Bool.{and_parts, cases_lt, cases_eq}
use lib.Utf8.{scalar, scalars, encode, encodes, next, scalar_cases}
use Rattle.std.proofs.lemmas.Bool.{lt-ltb, le-ltb}
use Rattle.std.proofs.lemmas.List.{length-append}
use Rattle.std.proofs.lemmas.Str.{encode_ascii}
use Rattle.jx_lex.specs.Character.{IsTail, Utf8, one, two, three_e0, three_low, three_ed, three_high, four_f0, four_mid, four_f4, tail_bits, two_tails, three_tails}
use Rattle.jx_index.specs.PointerForm.{IsTokenChar, plain, tilde, slash, IsToken, no_char, one_char, IsPointerOf, root, below}
use Rattle.jx_index.specs.Pointers.{IsEscapeDigit, IsBadEscape, HasSlash, IsPointer}

-- ---- the bytes of a character are one of the well-formed sequences

spelt : {w v : List ℕ} {c d : ℕ} → Utf8 w c → w ≡ v → c ≡ d → Utf8 v d
spelt {w = w} {v = v} {c = c} {d = d} u e f = subst (λ x. Utf8 v x) f (subst (λ x. Utf8 x c) e u)

a_tail : (n : ℕ) → IsTail (128 + n % 64)
a_tail n = record { from = omega arith; to = omega arith }

of_two : (c : ℕ) → 128 ≤ c → c < 2048 → Utf8 ((192 + c / 64) ∷ next c ∷ []) c
of_two c h k =
    let u : Utf8 ((192 + c / 64) ∷ (128 + c % 64) ∷ []) ((192 + c / 64 - 0xc0) * 64 + tail_bits (128 + c % 64)) =
    two (record { from = omega arith; to = omega arith }) (a_tail c) in
    spelt u refl (omega arith)

of_three : (c : ℕ) → 2048 ≤ c → c < 65536 → ((c < 55296) ⊎ (57344 ≤ c)) → Utf8 ((224 + c / 4096) ∷ next (c / 64) ∷ next c ∷ []) c
of_three c h k s =
    let b = 128 + (c / 64) % 64 in
    let d = 128 + c % 64 in
    let value : (c / 4096) * 4096 + two_tails b d ≡ c = omega arith in
    elim (cases_lt c 4096) [
      | inl low ↦ (
          let lead : 0xe0 ≡ 224 + c / 4096 = omega arith in
          let u : Utf8 (0xe0 ∷ b ∷ d ∷ []) (two_tails b d) = three_e0 (record { from = omega arith; to = omega arith }) (a_tail c) in
          spelt u (ap (λ x. x ∷ b ∷ d ∷ []) lead) (omega arith))
      | inr past ↦ elim (cases_lt c 53248) [
        | inl low ↦ (
            let u : Utf8 ((224 + c / 4096) ∷ b ∷ d ∷ []) ((224 + c / 4096 - 0xe0) * 4096 + two_tails b d) = three_low (record { from = omega arith; to = omega arith }) (a_tail (c / 64)) (a_tail c) in
            spelt u refl (omega arith))
        | inr past ↦ elim (cases_lt c 57344) [
          | inl low ↦ (
              let small : c < 55296 = elim s [ inl y ↦ y | inr y ↦ absurd (omega arith) ] in
              let lead : 0xed ≡ 224 + c / 4096 = omega arith in
              let u : Utf8 (0xed ∷ b ∷ d ∷ []) (0xd000 + two_tails b d) = three_ed (record { from = omega arith; to = omega arith }) (a_tail c) in
              spelt u (ap (λ x. x ∷ b ∷ d ∷ []) lead) (omega arith))
          | inr past ↦ (
              let u : Utf8 ((224 + c / 4096) ∷ b ∷ d ∷ []) ((224 + c / 4096 - 0xe0) * 4096 + two_tails b d) = three_high (record { from = omega arith; to = omega arith }) (a_tail (c / 64)) (a_tail c) in
              spelt u refl (omega arith))
        ]
      ]
    ]

of_four : (c : ℕ) → 65536 ≤ c → c < 1114112 → Utf8 ((240 + c / 262144) ∷ next (c / 4096) ∷ next (c / 64) ∷ next c ∷ []) c
of_four c h k =
    let b = 128 + (c / 4096) % 64 in
    let d = 128 + (c / 64) % 64 in
    let f = 128 + c % 64 in
    let value : (c / 262144) * 262144 + three_tails b d f ≡ c = omega arith in
    elim (cases_lt c 262144) [
      | inl low ↦ (
          let lead : 0xf0 ≡ 240 + c / 262144 = omega arith in
          let u : Utf8 (0xf0 ∷ b ∷ d ∷ f ∷ []) (three_tails b d f) = four_f0 (record { from = omega arith; to = omega arith }) (a_tail (c / 64)) (a_tail c) in
          spelt u (ap (λ x. x ∷ b ∷ d ∷ f ∷ []) lead) (omega arith))
      | inr past ↦ elim (cases_lt c 1048576) [
        | inl low ↦ (
            let u : Utf8 ((240 + c / 262144) ∷ b ∷ d ∷ f ∷ []) ((240 + c / 262144 - 0xf0) * 262144 + three_tails b d f) =
            four_mid (record { from = omega arith; to = omega arith }) (a_tail (c / 4096)) (a_tail (c / 64)) (a_tail c) in
            spelt u refl (omega arith))
        | inr past ↦ (
            let lead : 0xf4 ≡ 240 + c / 262144 = omega arith in
            let u : Utf8 (0xf4 ∷ b ∷ d ∷ f ∷ []) (0x100000 + three_tails b d f) = four_f4 (record { from = omega arith; to = omega arith }) (a_tail (c / 64)) (a_tail c) in
            spelt u (ap (λ x. x ∷ b ∷ d ∷ f ∷ []) lead) (omega arith))
      ]
    ]

apart : (c : ℕ) → scalar c ≡ true → (c < 55296) ⊎ (57344 ≤ c)
apart c s = elim (scalar_cases c s) [ inl h ↦ inl h | inr h ↦ inr h.0 ]

bounded : (c : ℕ) → scalar c ≡ true → c < 1114112
bounded c s = elim (scalar_cases c s) [ inl h ↦ omega (arith, h) | inr h ↦ h.1 ]

encoded : (c : ℕ) → scalar c ≡ true → Utf8 (encode c) c
unfolding encode
encoded c s =
    elim (cases_lt c 128) [
      | inl low ↦ rw (lt-ltb c 128 low) (one {a = c} (omega arith))
      | inr past ↦ elim (cases_lt c 2048) [
        | inl low ↦ rw (le-ltb c 128 past, lt-ltb c 2048 low) (of_two c past low)
        | inr past2 ↦ elim (cases_lt c 65536) [
          | inl low ↦ rw (le-ltb c 128 past, le-ltb c 2048 past2, lt-ltb c 65536 low) (of_three c past2 low (apart c s))
          | inr past3 ↦ rw (le-ltb c 128 past, le-ltb c 2048 past2, le-ltb c 65536 past3) (of_four c past3 (bounded c s))
        ]
      ]
    ]

first_high : {w : List ℕ} {c : ℕ} → Utf8 w c → 128 ≤ c → (rest : List ℕ) → 128 ≤ get_or (w ++ rest) 0 0
first_high (one h) k rest = absurd (omega arith)
first_high (two h t) k rest = let x = h.from in omega arith
first_high (three_e0 h t) k rest = omega arith
first_high (three_low h t u) k rest = let x = h.from in omega arith
first_high (three_ed h t) k rest = omega arith
first_high (three_high h t u) k rest = let x = h.from in omega arith
first_high (four_f0 h t u) k rest = omega arith
first_high (four_mid h t u v) k rest = let x = h.from in omega arith
first_high (four_f4 h t u) k rest = omega arith

-- ---- tokens

abbrev NoBad : List ℕ → Type 0
NoBad bytes = (at : ℕ) → IsBadEscape bytes at → ⊥

get_past : (u v : List ℕ) (i : ℕ) → get_or (u ++ v) (length u + i) 0 ≡ get_or v i 0
get_past [] v i = ap (λ n. get_or v n 0) (let e : 0 + i ≡ i = omega arith in e)
get_past (b ∷ u) v i = ap (λ n. get_or (b ∷ (u ++ v)) n 0) (let e : suc (length u) + i ≡ suc (length u + i) = omega arith in e) ∙ get_past u v i

later : (u v : List ℕ) → NoBad (u ++ v) → NoBad v
later u v h at b =
    let e : length u + at + 1 ≡ length u + (at + 1) = omega arith in
    h (length u + at) (record {
      within = omega (arith, length-append u v, b.within);
      tilde = get_past u v at ∙ b.tilde;
      after = λ d. b.after (subst IsEscapeDigit (ap (λ n. get_or (u ++ v) n 0) e ∙ get_past u v (at + 1)) d);
    })

-- the bytes are a token's, and then a pointer's
record Parsed (bytes : List ℕ) : Type 0 where
  token : List ℕ
  units : List ℕ
  rest : List ℕ
  tokens : List (List ℕ)
  is_token : IsToken token units
  is_rest : IsPointerOf rest tokens
  whole : bytes ≡ token ++ rest

with_char : {w us : List ℕ} {bytes : List ℕ} → IsTokenChar w us → Parsed bytes → Parsed (w ++ bytes)
with_char {w = w} {us = us} p q =
    record {
      token = w ++ q.token;
      units = us ++ q.units;
      rest = q.rest;
      tokens = q.tokens;
      is_token = one_char p q.is_token;
      is_rest = q.is_rest;
      whole = ap (λ x. w ++ x) q.whole ∙ sym (append_assoc w q.token q.rest);
    }

at_slash : {bytes : List ℕ} → Parsed bytes → Parsed (0x2f ∷ bytes)
at_slash q =
    record {
      token = [];
      units = [];
      rest = 0x2f ∷ (q.token ++ q.rest);
      tokens = q.units ∷ q.tokens;
      is_token = no_char;
      is_rest = below q.is_token q.is_rest;
      whole = ap (λ x. 0x2f ∷ x) q.whole;
    }

-- the character behind a ~
digit_next : (d : ℕ) (rest : List ℕ) → scalar d ≡ true → IsEscapeDigit (get_or (encode d ++ rest) 0 0) → IsEscapeDigit d
digit_next d rest s h =
    elim (cases_lt d 128) [
      | inl low ↦ subst IsEscapeDigit (ap (λ x. get_or (x ++ rest) 0 0) (encode_ascii d low)) h
      | inr past ↦ (let high = first_high (encoded d s) past rest in elim h [ inl e ↦ absurd (omega (arith, e)) | inr e ↦ absurd (omega (arith, e)) ])
    ]

digit_of : (bytes : List ℕ) → NoBad (0x7e ∷ bytes) → (IsEscapeDigit (get_or bytes 0 0) ⊎ (IsEscapeDigit (get_or bytes 0 0) → ⊥)) → IsEscapeDigit (get_or bytes 0 0)
digit_of bytes n (inl h) = h
digit_of bytes n (inr none) = absurd (n 0 (record { within = omega arith; tilde = refl; after = λ d. none d }))

is_digit_or : (b : ℕ) → IsEscapeDigit b ⊎ (IsEscapeDigit b → ⊥)
is_digit_or b =
    elim (cases_eq b 0x30) [
      | inl e ↦ inl (inl e)
      | inr n ↦ elim (cases_eq b 0x31) [
        | inl e ↦ inl (inr e)
        | inr m ↦ inr (λ h. elim h [ inl e ↦ n e | inr e ↦ m e ])
      ]
    ]

escape_of : (d : ℕ) (bytes : List ℕ) → IsEscapeDigit d → Parsed bytes → Parsed (0x7e ∷ (encode d ++ bytes))
escape_of d bytes (inl e) q = subst (λ x. Parsed (0x7e ∷ (x ++ bytes))) (sym (ap encode e ∙ encode_ascii 0x30 (omega arith))) (with_char tilde q)
escape_of d bytes (inr e) q = subst (λ x. Parsed (0x7e ∷ (x ++ bytes))) (sym (ap encode e ∙ encode_ascii 0x31 (omega arith))) (with_char slash q)

choose : (c : ℕ) (cs : List ℕ) → ((c ≡ 0x2f) ⊎ (c ≢ 0x2f)) → ((c ≡ 0x7e) ⊎ (c ≢ 0x7e)) → scalar c ≡ true → NoBad (encode c ++ encodes cs)
    → (NoBad (encodes cs) → Parsed (encodes cs)) → (NoBad (0x7e ∷ encodes cs) → Parsed (0x7e ∷ encodes cs)) → Parsed (encode c ++ encodes cs)
choose c cs (inl e) b s n rec til =
    subst (λ x. Parsed (x ++ encodes cs)) (sym (ap encode e ∙ encode_ascii 0x2f (omega arith))) (at_slash (rec (later (encode c) (encodes cs) n)))
choose c cs (inr a) (inl e) s n rec til =
    let w : encode c ≡ 0x7e ∷ [] = ap encode e ∙ encode_ascii 0x7e (omega arith) in
    subst (λ x. Parsed (x ++ encodes cs)) (sym w) (til (subst (λ x. NoBad (x ++ encodes cs)) w n))
choose c cs (inr a) (inr b) s n rec til = with_char (plain (encoded c s) b a) (rec (later (encode c) (encodes cs) n))

mutual
  parse : (cs : List ℕ) → scalars cs ≡ true → NoBad (encodes cs) → Parsed (encodes cs)
  parse [] s n = record { token = []; units = []; rest = []; tokens = []; is_token = no_char; is_rest = root; whole = refl }
  parse (c ∷ cs) s n =
      let p = and_parts (scalar c) (scalars cs) s in
      choose c cs (cases_eq c 0x2f) (cases_eq c 0x7e) p.0 n (λ m. parse cs p.1 m) (λ m. behind_tilde cs p.1 m)

  behind_tilde : (cs : List ℕ) → scalars cs ≡ true → NoBad (0x7e ∷ encodes cs) → Parsed (0x7e ∷ encodes cs)
  behind_tilde [] s n = absurd (n 0 (record { within = omega arith; tilde = refl; after = λ h. elim h [ inl e ↦ absurd (omega (arith, e)) | inr e ↦ absurd (omega (arith, e)) ] }))
  behind_tilde (d ∷ ds) s n =
      let p = and_parts (scalar d) (scalars ds) s in
      escape_of d (encodes ds) (digit_next d (encodes ds) p.0 (digit_of (encode d ++ encodes ds) n (is_digit_or (get_or (encode d ++ encodes ds) 0 0))))
      (parse ds p.1 (later (0x7e ∷ encode d) (encodes ds) n))

-- ---- the whole

slash_first : (c : ℕ) (rest : List ℕ) → scalar c ≡ true → get_or (encode c ++ rest) 0 0 ≡ 0x2f → c ≡ 0x2f
slash_first c rest s h =
    elim (cases_lt c 128) [
      | inl low ↦ sym (ap (λ x. get_or (x ++ rest) 0 0) (encode_ascii c low)) ∙ h
      | inr past ↦ (let high = first_high (encoded c s) past rest in absurd (omega (arith, h)))
    ]

some_byte : {w : List ℕ} {c : ℕ} → Utf8 w c → (rest : List ℕ) → 0 < length (w ++ rest)
some_byte (one h) rest = omega arith
some_byte (two h t) rest = omega arith
some_byte (three_e0 h t) rest = omega arith
some_byte (three_low h t u) rest = omega arith
some_byte (three_ed h t) rest = omega arith
some_byte (three_high h t u) rest = omega arith
some_byte (four_f0 h t u) rest = omega arith
some_byte (four_mid h t u v) rest = omega arith
some_byte (four_f4 h t u) rest = omega arith

form_of : (cs : List ℕ) → scalars cs ≡ true → HasSlash (encodes cs) → NoBad (encodes cs) → (ts : List (List ℕ)) × IsPointerOf (encodes cs) ts
form_of [] s h n = ([], root)
form_of (c ∷ cs) s h n =
    let p = and_parts (scalar c) (scalars cs) s in
    let e : c ≡ 0x2f = slash_first c (encodes cs) p.0 (h (some_byte (encoded c p.0) (encodes cs))) in
    let q = parse cs p.1 (later (encode c) (encodes cs) n) in (
      q.units ∷ q.tokens,
      subst (λ x. IsPointerOf x (q.units ∷ q.tokens))
          (sym (ap (λ x. x ++ encodes cs) (ap encode e ∙ encode_ascii 0x2f (omega arith)) ∙ ap (λ x. 0x2f ∷ x) q.whole))
          (below q.is_token q.is_rest),
    )

pub has_form : (p : List ℕ) → IsUtf8 p → IsPointer p → (ts : List (List ℕ)) × IsPointerOf p ts
has_form p u i =
    subst (λ x. (ts : List (List ℕ)) × IsPointerOf x ts) u.1.1
    (form_of u.0 u.1.0 (subst HasSlash (sym u.1.1) i.slash) (subst NoBad (sym u.1.1) i.escapes))

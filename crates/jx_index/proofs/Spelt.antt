-- What has the form of a pointer is a pointer.
use Rattle.std.proofs.Common.{◌≡◌, ◌≢◌, ℕ, zero, suc, ◌+◌, ◌-◌, ◌*◌, ◌/◌, ◌%◌, ◌<◌, ◌≤◌, List, [], ◌∷◌, ◌++◌, append_assoc, refl, sym, ap, subst, ◌∙◌, arith, get_or, IsUtf8, inl, inr}
use lib.Utf8.{encode, next}
use Rattle.std.specs.Char.{IsScalar}
use Rattle.std.proofs.lemmas.Bool.{lt-ltb, le-ltb}
use Rattle.std.proofs.lemmas.Bool.Decides.{nat_tests}
use Rattle.std.proofs.lemmas.Str.{IsUtf8-append, IsUtf8-encode, IsUtf8-nil, encode_ascii}
use Rattle.jx_lex.specs.Character.{IsTail, Utf8, one, two, three_e0, three_low, three_ed, three_high, four_f0, four_mid, four_f4, tail_bits, two_tails, three_tails}
use Rattle.jx_index.specs.PointerForm.{IsTokenChar, plain, tilde, slash, IsToken, no_char, one_char, IsPointerOf, root, below}
use Rattle.jx_index.specs.Pointers.{IsEscapeDigit, IsBadEscape, HasSlash, IsPointer}

-- ---- the bytes of a character are its encoding

encode_two : (c : ℕ) → 128 ≤ c → c < 2048 → encode c ≡ (192 + c / 64) ∷ next c ∷ []
unfolding encode
encode_two c h k = rw (le-ltb c 128 h, lt-ltb c 2048 k) refl

encode_three : (c : ℕ) → 2048 ≤ c → c < 65536 → encode c ≡ (224 + c / 4096) ∷ next (c / 64) ∷ next c ∷ []
unfolding encode
encode_three c h k = rw (le-ltb c 128 (omega arith), le-ltb c 2048 h, lt-ltb c 65536 k) refl

encode_four : (c : ℕ) → 65536 ≤ c → encode c ≡ (240 + c / 262144) ∷ next (c / 4096) ∷ next (c / 64) ∷ next c ∷ []
unfolding encode
encode_four c h = rw (le-ltb c 128 (omega arith), le-ltb c 2048 (omega arith), le-ltb c 65536 h) refl

-- a scalar value, with its bytes
record Encodes (w : List ℕ) (c : ℕ) : Type 0 where
  is_scalar : IsScalar c
  bytes : encode c ≡ w

two_bytes : (a b : ℕ) → 0xc2 ≤ a → a ≤ 0xdf → IsTail b → (c : ℕ) → c ≡ (a - 0xc0) * 64 + tail_bits b → Encodes (a ∷ b ∷ []) c
two_bytes a b h k t c e =
    let x = t.from in let y = t.to in
    let first : 192 + c / 64 ≡ a = omega arith in
    let last : 128 + c % 64 ≡ b = omega arith in
    record {
      is_scalar = grind (arith, nat_tests);
      bytes = encode_two c (omega arith) (omega arith) ∙ ap (λ n. n ∷ (128 + c % 64) ∷ []) first ∙ ap (λ n. a ∷ n ∷ []) last;
    }

three_bytes : (a b d : ℕ) → 0xe0 ≤ a → a ≤ 0xef → IsTail b → IsTail d → (c : ℕ) → c ≡ (a - 0xe0) * 4096 + two_tails b d → 2048 ≤ c → IsScalar c → Encodes (a ∷ b ∷ d ∷ []) c
three_bytes a b d h k t u c e low s =
    let x = t.from in let y = t.to in let z = u.from in let w = u.to in
    let first : 224 + c / 4096 ≡ a = omega arith in
    let second : 128 + (c / 64) % 64 ≡ b = omega arith in
    let last : 128 + c % 64 ≡ d = omega arith in
    record {
      is_scalar = s;
      bytes =
          encode_three c low (omega arith)
          ∙ ap (λ n. n ∷ (128 + (c / 64) % 64) ∷ (128 + c % 64) ∷ []) first ∙ ap (λ n. a ∷ n ∷ (128 + c % 64) ∷ []) second ∙ ap (λ n. a ∷ b ∷ n ∷ []) last;
    }

four_bytes : (a b d f : ℕ) → 0xf0 ≤ a → a ≤ 0xf4 → IsTail b → IsTail d → IsTail f → (c : ℕ) → c ≡ (a - 0xf0) * 262144 + three_tails b d f → 65536 ≤ c → c < 1114112
    → Encodes (a ∷ b ∷ d ∷ f ∷ []) c
four_bytes a b d f h k t u v c e low high =
    let x = t.from in let y = t.to in let z = u.from in let w = u.to in let p = v.from in let q = v.to in
    let first : 240 + c / 262144 ≡ a = omega arith in
    let second : 128 + (c / 4096) % 64 ≡ b = omega arith in
    let third : 128 + (c / 64) % 64 ≡ d = omega arith in
    let last : 128 + c % 64 ≡ f = omega arith in
    record {
      is_scalar = grind (arith, nat_tests);
      bytes =
          encode_four c low
          ∙ ap (λ n. n ∷ (128 + (c / 4096) % 64) ∷ (128 + (c / 64) % 64) ∷ (128 + c % 64) ∷ []) first ∙ ap (λ n. a ∷ n ∷ (128 + (c / 64) % 64) ∷ (128 + c % 64) ∷ []) second
          ∙ ap (λ n. a ∷ b ∷ n ∷ (128 + c % 64) ∷ []) third ∙ ap (λ n. a ∷ b ∷ d ∷ n ∷ []) last;
    }

low_scalar : (c : ℕ) → c < 55296 → IsScalar c
low_scalar c h = rw (lt-ltb c 55296 h) refl

high_scalar : (c : ℕ) → 57344 ≤ c → c < 1114112 → IsScalar c
high_scalar c h k = grind (arith, nat_tests)

encodes_char : {w : List ℕ} {c : ℕ} → Utf8 w c → Encodes w c
encodes_char (one {a = a} h) = record { is_scalar = low_scalar a (omega arith); bytes = encode_ascii a (omega arith) }
encodes_char (two {a = a} {b = b} h t) = two_bytes a b h.from h.to t ((a - 0xc0) * 64 + tail_bits b) refl
encodes_char (three_e0 {b = b} {c = d} h t) =
    let x = h.from in let y = h.to in let z = t.from in let w = t.to in
    let c : ℕ = two_tails b d in
    three_bytes 0xe0 b d (omega arith) (omega arith) (record { from = omega arith; to = omega arith }) t c (omega arith) (omega arith) (low_scalar c (omega arith))
encodes_char (three_low {a = a} {b = b} {c = d} h t u) =
    let x = h.from in let y = h.to in let z = t.from in let w = t.to in let p = u.from in let q = u.to in
    let c : ℕ = (a - 0xe0) * 4096 + two_tails b d in
    three_bytes a b d (omega arith) (omega arith) t u c refl (omega arith) (low_scalar c (omega arith))
encodes_char (three_ed {b = b} {c = d} h t) =
    let x = h.from in let y = h.to in let z = t.from in let w = t.to in
    let c : ℕ = 0xd000 + two_tails b d in
    three_bytes 0xed b d (omega arith) (omega arith) (record { from = omega arith; to = omega arith }) t c (omega arith) (omega arith) (low_scalar c (omega arith))
encodes_char (three_high {a = a} {b = b} {c = d} h t u) =
    let x = h.from in let y = h.to in let z = t.from in let w = t.to in let p = u.from in let q = u.to in
    let c : ℕ = (a - 0xe0) * 4096 + two_tails b d in
    three_bytes a b d (omega arith) (omega arith) t u c refl (omega arith) (high_scalar c (omega arith) (omega arith))
encodes_char (four_f0 {b = b} {c = d} {d = f} h t u) =
    let x = h.from in let y = h.to in let z = t.from in let w = t.to in let p = u.from in let q = u.to in
    let c : ℕ = three_tails b d f in
    four_bytes 0xf0 b d f (omega arith) (omega arith) (record { from = omega arith; to = omega arith }) t u c (omega arith) (omega arith) (omega arith)
encodes_char (four_mid {a = a} {b = b} {c = d} {d = f} h t u v) =
    let x = h.from in let y = h.to in let z = t.from in let w = t.to in let p = u.from in let q = u.to in let r = v.from in let s = v.to in
    let c : ℕ = (a - 0xf0) * 262144 + three_tails b d f in
    four_bytes a b d f (omega arith) (omega arith) t u v c refl (omega arith) (omega arith)
encodes_char (four_f4 {b = b} {c = d} {d = f} h t u) =
    let x = h.from in let y = h.to in let z = t.from in let w = t.to in let p = u.from in let q = u.to in
    let c : ℕ = 0x100000 + three_tails b d f in
    four_bytes 0xf4 b d f (omega arith) (omega arith) (record { from = omega arith; to = omega arith }) t u c (omega arith) (omega arith) (omega arith)

utf8_ascii : (c : ℕ) → c < 128 → IsUtf8 (c ∷ [])
utf8_ascii c h = subst IsUtf8 (encode_ascii c h) (IsUtf8-encode c (low_scalar c (omega arith)))

utf8_part : {w us : List ℕ} → IsTokenChar w us → IsUtf8 w
utf8_part (plain u n m) = let e = encodes_char u in subst IsUtf8 e.bytes (IsUtf8-encode _ e.is_scalar)
utf8_part tilde = IsUtf8-append (0x7e ∷ []) (0x30 ∷ []) (utf8_ascii 0x7e (omega arith)) (utf8_ascii 0x30 (omega arith))
utf8_part slash = IsUtf8-append (0x7e ∷ []) (0x31 ∷ []) (utf8_ascii 0x7e (omega arith)) (utf8_ascii 0x31 (omega arith))

utf8_token : {w us : List ℕ} → IsToken w us → IsUtf8 w
utf8_token no_char = IsUtf8-nil
utf8_token (one_char {w = w} {v = v} p ps) = IsUtf8-append w v (utf8_part p) (utf8_token ps)

pub utf8_of_form : {p : List ℕ} {ts : List (List ℕ)} → IsPointerOf p ts → IsUtf8 p
utf8_of_form root = IsUtf8-nil
utf8_of_form (below {w = w} {rest = rest} t r) =
    IsUtf8-append (0x2f ∷ []) (w ++ rest) (utf8_ascii 0x2f (omega arith)) (IsUtf8-append w rest (utf8_token t) (utf8_of_form r))

-- ---- 0 or 1 stands behind each ~

abbrev Good : List ℕ → Type 0
Good [] = Unit {0}
Good (b ∷ bs) = (b ≡ 0x7e → IsEscapeDigit (get_or bs 0 0)) × Good bs

past : (b : ℕ) (bs : List ℕ) → b ≢ 0x7e → Good bs → Good (b ∷ bs)
past b bs n g = (λ e. absurd (n e), g)

tail_past : (b : ℕ) (bs : List ℕ) → IsTail b → Good bs → Good (b ∷ bs)
tail_past b bs t g = let x = t.from in past b bs (λ e. omega arith) g

good_char : {w : List ℕ} {c : ℕ} → Utf8 w c → c ≢ 0x7e → (rest : List ℕ) → Good rest → Good (w ++ rest)
good_char (one {a = a} h) n rest g = past a rest n g
good_char (two {a = a} {b = b} h t) n rest g = let x = h.from in past a (b ∷ rest) (λ e. omega arith) (tail_past b rest t g)
good_char (three_e0 {b = b} {c = d} h t) n rest g = let x = h.from in past 0xe0 (b ∷ d ∷ rest) (λ e. omega arith) (past b (d ∷ rest) (λ e. omega arith) (tail_past d rest t g))
good_char (three_low {a = a} {b = b} {c = d} h t u) n rest g = let x = h.from in past a (b ∷ d ∷ rest) (λ e. omega arith) (tail_past b (d ∷ rest) t (tail_past d rest u g))
good_char (three_ed {b = b} {c = d} h t) n rest g = let x = h.from in past 0xed (b ∷ d ∷ rest) (λ e. omega arith) (past b (d ∷ rest) (λ e. omega arith) (tail_past d rest t g))
good_char (three_high {a = a} {b = b} {c = d} h t u) n rest g = let x = h.from in past a (b ∷ d ∷ rest) (λ e. omega arith) (tail_past b (d ∷ rest) t (tail_past d rest u g))
good_char (four_f0 {b = b} {c = d} {d = f} h t u) n rest g =
    let x = h.from in past 0xf0 (b ∷ d ∷ f ∷ rest) (λ e. omega arith) (past b (d ∷ f ∷ rest) (λ e. omega arith) (tail_past d (f ∷ rest) t (tail_past f rest u g)))
good_char (four_mid {a = a} {b = b} {c = d} {d = f} h t u v) n rest g =
    let x = h.from in past a (b ∷ d ∷ f ∷ rest) (λ e. omega arith) (tail_past b (d ∷ f ∷ rest) t (tail_past d (f ∷ rest) u (tail_past f rest v g)))
good_char (four_f4 {b = b} {c = d} {d = f} h t u) n rest g =
    let x = h.from in past 0xf4 (b ∷ d ∷ f ∷ rest) (λ e. omega arith) (past b (d ∷ f ∷ rest) (λ e. omega arith) (tail_past d (f ∷ rest) t (tail_past f rest u g)))

good_token_char : {w us : List ℕ} → IsTokenChar w us → (rest : List ℕ) → Good rest → Good (w ++ rest)
good_token_char (plain u n m) rest g = good_char u n rest g
good_token_char tilde rest g = (λ e. inl refl, past 0x30 rest (λ e. omega arith) g)
good_token_char slash rest g = (λ e. inr refl, past 0x31 rest (λ e. omega arith) g)

good_token : {w us : List ℕ} → IsToken w us → (rest : List ℕ) → Good rest → Good (w ++ rest)
good_token no_char rest g = g
good_token (one_char {w = w} {v = v} p ps) rest g = subst Good (sym (append_assoc w v rest)) (good_token_char p (v ++ rest) (good_token ps rest g))

good_pointer : {p : List ℕ} {ts : List (List ℕ)} → IsPointerOf p ts → Good p
good_pointer root = tt
good_pointer (below {w = w} {rest = rest} t r) = past 0x2f (w ++ rest) (λ e. omega arith) (good_token t rest (good_pointer r))

none_bad : (p : List ℕ) → Good p → (at : ℕ) → IsBadEscape p at → ⊥
none_bad [] g at b = let h = b.within in omega arith
none_bad (x ∷ xs) g zero b = b.after (g.0 b.tilde)
none_bad (x ∷ xs) g (suc at) b =
    let e : at + 1 ≡ suc at = omega arith in
    let f : suc (at + 1) ≡ suc at + 1 = omega arith in
    none_bad xs g.1 at (record {
      within = omega (arith, b.within);
      tilde = b.tilde;
      after = λ d. b.after (subst (λ n. IsEscapeDigit (get_or (x ∷ xs) n 0)) f d);
    })

slash_first : {p : List ℕ} {ts : List (List ℕ)} → IsPointerOf p ts → HasSlash p
slash_first root h = absurd (omega arith)
slash_first (below t r) h = refl

pub pointer_of_form : {p : List ℕ} {ts : List (List ℕ)} → IsPointerOf p ts → IsPointer p
pointer_of_form {p = p} h = record { slash = slash_first h; escapes = none_bad p (good_pointer h) }

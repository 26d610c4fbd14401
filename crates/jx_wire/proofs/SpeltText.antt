-- What is spelt byte by byte is a string of the same characters.
use Rattle.std.proofs.Common.{◌≡◌, ◌≢◌, ℕ, ◌+◌, ◌/◌, ◌%◌, ◌<◌, ◌≤◌, Bool, List, [], ◌∷◌, ◌++◌, true, false, refl, sym, ap, subst, ◌∙◌, inl, inr, arith}
use Rattle.std.specs.Prelude.{nat_lt}
use Rattle.std.specs.Char.{digit_char, digit_value}
use Rattle.std.specs.Char.Escape.{encode_utf16}
use Rattle.std.specs.List.{flat_map}
use Rattle.std.proofs.lemmas.Bool.{cases_lt}
use Rattle.std.proofs.lemmas.Bool.Decides.{nat_tests}
use Rattle.std.proofs.lemmas.List.Concat.{flat_map-append}
use Rattle.std.proofs.lemmas.Str.{digit_value-digit_char}
use Rattle.jx_lex.specs.Character.{Utf8, one, two, three_e0, three_low, three_ed, three_high, four_f0, four_mid, four_f4}
use Rattle.jx_lex.specs.Token.{IsHexDigit, decimal, lower, IsChar, character, unit, Chars, no_chars, one_char, IsString, quoted, hex_unit}
use Rattle.jx_wire.specs.Strings.{IsTextOf, no_text, one_more}
use Rattle.jx_wire.specs.inside.Escapes.{is_special, spelt, all_spelt}

-- ---- one byte

plain : (b : ℕ) → is_special b ≡ false → spelt b ≡ b ∷ []
plain b h = rw h refl

escaped : (b : ℕ) → is_special b ≡ true → spelt b ≡ 0x5c ∷ 0x75 ∷ 0x30 ∷ 0x30 ∷ digit_char (b / 16) ∷ digit_char (b % 16) ∷ []
escaped b h = rw h refl

is_plain : (b : ℕ) → 0x80 ≤ b → is_special b ≡ false
is_plain b h = grind (arith, nat_tests)

decimal_char : (d : ℕ) → d < 10 → digit_char d ≡ 48 + d
decimal_char d h = let t : nat_lt d 10 ≡ true = grind (arith, nat_tests) in rw t refl

letter_char : (d : ℕ) → 10 ≤ d → digit_char d ≡ 87 + d
letter_char d h = let t : nat_lt d 10 ≡ false = grind (arith, nat_tests) in rw t refl

is_hex : (d : ℕ) → d < 16 → IsHexDigit (digit_char d)
is_hex d h =
    elim (cases_lt d 10) [
      | inl l ↦ subst IsHexDigit (sym (decimal_char d l)) (decimal (record { from = omega arith; to = omega arith }))
      | inr g ↦ subst IsHexDigit (sym (letter_char d g)) (lower (record { from = omega arith; to = omega arith }))
    ]

one_unit : (a : ℕ) → a < 0x1_0000 → encode_utf16 a ≡ a ∷ []
one_unit a h = let t : nat_lt a 0x1_0000 ≡ true = grind (arith, nat_tests) in rw t refl

two_digits : (a : ℕ) → a < 256 → hex_unit 0x30 0x30 (digit_char (a / 16)) (digit_char (a % 16)) ≡ a
two_digits a h =
    let x : digit_value (digit_char (a / 16)) ≡ a / 16 = digit_value-digit_char (a / 16) (omega arith) in
    let y : digit_value (digit_char (a % 16)) ≡ a % 16 = digit_value-digit_char (a % 16) (omega arith) in
    omega (arith, x, y)

-- ---- one character

escape_of : (a : ℕ) → a < 256 → IsChar (0x5c ∷ 0x75 ∷ 0x30 ∷ 0x30 ∷ digit_char (a / 16) ∷ digit_char (a % 16) ∷ []) (a ∷ [])
escape_of a h =
    subst (λ u. IsChar (0x5c ∷ 0x75 ∷ 0x30 ∷ 0x30 ∷ digit_char (a / 16) ∷ digit_char (a % 16) ∷ []) (u ∷ [])) (two_digits a h)
    (unit (is_hex 0 (omega arith)) (is_hex 0 (omega arith)) (is_hex (a / 16) (omega arith)) (is_hex (a % 16) (omega arith)))

is_no_control : (a : ℕ) → is_special a ≡ false → 0x20 ≤ a
is_no_control a h = grind (arith, nat_tests)

is_no_mark : (a : ℕ) → is_special a ≡ false → a ≢ 0x22
is_no_mark a h = grind (arith, nat_tests)

is_no_backslash : (a : ℕ) → is_special a ≡ false → a ≢ 0x5c
is_no_backslash a h = grind (arith, nat_tests)

one_byte : (a : ℕ) → a ≤ 0x7f → (t : Bool) → is_special a ≡ t → IsChar (flat_map spelt (a ∷ [])) (encode_utf16 a)
one_byte a h true e =
    subst (λ x. IsChar (x ++ []) (encode_utf16 a)) (sym (escaped a e))
    (subst (λ us. IsChar (0x5c ∷ 0x75 ∷ 0x30 ∷ 0x30 ∷ digit_char (a / 16) ∷ digit_char (a % 16) ∷ []) us) (sym (one_unit a (omega arith))) (escape_of a (omega arith)))
one_byte a h false e =
    subst (λ x. IsChar (x ++ []) (encode_utf16 a)) (sym (plain a e))
    (character (one h) (is_no_control a e) (is_no_mark a e) (is_no_backslash a e))

abbrev AreHigh : List ℕ → Type 0
AreHigh [] = Unit {0}
AreHigh (b ∷ bs) = (0x80 ≤ b) × AreHigh bs

stay : (w : List ℕ) → AreHigh w → flat_map spelt w ≡ w
stay [] h = refl
stay (b ∷ bs) h = ap (λ x. x ++ flat_map spelt bs) (plain b (is_plain b h.0)) ∙ ap (λ x. b ∷ x) (stay bs h.1)

more_bytes : (w : List ℕ) (c : ℕ) → Utf8 w c → AreHigh w → 0x80 ≤ c → IsChar (flat_map spelt w) (encode_utf16 c)
more_bytes w c u h l = subst (λ x. IsChar x (encode_utf16 c)) (sym (stay w h)) (character u (omega arith) (omega arith) (omega arith))

of_character : {w : List ℕ} {c : ℕ} → Utf8 w c → IsChar (flat_map spelt w) (encode_utf16 c)
of_character (one {a = a} le) = one_byte a le (is_special a) refl
of_character (two {a = a} {b = b} h t) =
    let x = h.from in let y = t.from in more_bytes (a ∷ b ∷ []) _ (two h t) (omega arith, (y, tt)) (omega arith)
of_character (three_e0 {b = b} {c = c} h t) =
    let x = h.from in let y = t.from in more_bytes (0xe0 ∷ b ∷ c ∷ []) _ (three_e0 h t) (omega arith, (omega arith, (y, tt))) (omega arith)
of_character (three_low {a = a} {b = b} {c = c} h t u) =
    let x = h.from in let y = t.from in let z = u.from in more_bytes (a ∷ b ∷ c ∷ []) _ (three_low h t u) (omega arith, (y, (z, tt))) (omega arith)
of_character (three_ed {b = b} {c = c} h t) =
    let x = h.from in let y = t.from in more_bytes (0xed ∷ b ∷ c ∷ []) _ (three_ed h t) (omega arith, (x, (y, tt))) (omega arith)
of_character (three_high {a = a} {b = b} {c = c} h t u) =
    let x = h.from in let y = t.from in let z = u.from in more_bytes (a ∷ b ∷ c ∷ []) _ (three_high h t u) (omega arith, (y, (z, tt))) (omega arith)
of_character (four_f0 {b = b} {c = c} {d = d} h t u) =
    let x = h.from in let y = t.from in let z = u.from in more_bytes (0xf0 ∷ b ∷ c ∷ d ∷ []) _ (four_f0 h t u) (omega arith, (omega arith, (y, (z, tt)))) (omega arith)
of_character (four_mid {a = a} {b = b} {c = c} {d = d} h t u v) =
    let x = h.from in let y = t.from in let z = u.from in let w = v.from in more_bytes (a ∷ b ∷ c ∷ d ∷ []) _ (four_mid h t u v) (omega arith, (y, (z, (w, tt)))) (omega arith)
of_character (four_f4 {b = b} {c = c} {d = d} h t u) =
    let x = h.from in let y = t.from in let z = u.from in more_bytes (0xf4 ∷ b ∷ c ∷ d ∷ []) _ (four_f4 h t u) (omega arith, (x, (y, (z, tt)))) (omega arith)

-- ---- all of them

of_text : {text units : List ℕ} → IsTextOf text units → Chars (all_spelt text) units
of_text no_text = no_chars
of_text (one_more {w = w} {v = v} {us = us} {c = c} u more) =
    subst (λ x. Chars x (encode_utf16 c ++ us)) (sym (flat_map-append spelt w v)) (one_char (of_character u) (of_text more))

pub string_of : (text units items : List ℕ) → items ≡ ((0x22 ∷ []) ++ all_spelt text) ++ (0x22 ∷ []) → IsTextOf text units → IsString items units
string_of text units items e t = subst (λ x. IsString x units) (sym e) (quoted (of_text t))

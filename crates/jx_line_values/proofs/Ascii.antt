-- A string of ASCII without a backslash stands for its own bytes.
use Rattle.std.proofs.Common.{◌≡◌, ℕ, zero, suc, ◌<◌, List, [], ◌∷◌, ◌++◌, Bool, true, false, map, get_or, refl, ap, ◌∙◌, arith}
use Rattle.std.specs.Prelude.{◌&&◌, ◌==◌, Option, Some, None, if◌then◌else◌, is_some, nat_lt, not, unwrap_or}
use Rattle.std.specs.Char.Utf16.{lone_unit_char, utf16_chars}
use Rattle.std.specs.List.{list_all, list_any}
use Rattle.std.specs.Str.{encode_utf8_all, IsAscii}
use Rattle.std.proofs.lemmas.Bool.Decides.{nat_tests}
use Rattle.std.proofs.lemmas.Str.{encodes-IsAscii, utf16_chars-nil, utf16_chars_lone}
use Rattle.std.proofs.str.Utf16.{IsPair}
use Rattle.jx_index.specs.declared.units.Spelling.TheVariants.{InText}
use Rattle.jx_index.specs.Units.{char_more, char_units, chars_units}
use Rattle.jx_string.specs.Texts.{utf8_of}
use Rattle.jx_line_values.specs.inside.Texts.{is_itself}

first_is : (p q : Bool) → (p && q) ≡ true → p ≡ true
first_is true q h = refl
first_is false q h = h

rest_are : (p q : Bool) → (p && q) ≡ true → q ≡ true
rest_are true q h = h
rest_are false q h = absurd (cc)

below : (byte : ℕ) → is_itself byte ≡ true → byte < 0x80
below byte h = grind (arith, nat_tests)

no_backslash : (byte : ℕ) → is_itself byte ≡ true → (byte == 0x5c) ≡ false
no_backslash byte h = grind (arith, nat_tests)

-- ---- its units are its bytes

one_unit : (a : ℕ) (bs : List ℕ) → is_itself a ≡ true → char_units InText a bs ≡ a ∷ []
one_unit a bs h =
    let e : (a == 0x5c) ≡ false = no_backslash a h in
    let low : a < 0x80 = below a h in
    let l : nat_lt a 0x80 ≡ true = grind (arith, nat_tests) in
    let m : nat_lt a 0x1_0000 ≡ true = grind (arith, nat_tests) in
    rw (e, l, m) refl

none_more : (a : ℕ) (bs : List ℕ) → is_itself a ≡ true → char_more InText a bs ≡ 0
none_more a bs h =
    let e : (a == 0x5c) ≡ false = no_backslash a h in
    let low : a < 0x80 = below a h in
    let l : nat_lt a 0x80 ≡ true = grind (arith, nat_tests) in
    rw (e, l) refl

units_are : (bytes : List ℕ) → list_all is_itself bytes ≡ true → chars_units InText 0 bytes ≡ bytes
unfolding chars_units
units_are [] h = refl
units_are (a ∷ bytes) h =
    let here = first_is (is_itself a) (list_all is_itself bytes) h in
    ap (λ (k : ℕ). char_units InText a bytes ++ chars_units InText k bytes) (none_more a bytes here)
    ∙ ap (λ (us : List ℕ). us ++ chars_units InText 0 bytes) (one_unit a bytes here)
    ∙ ap (λ (us : List ℕ). a ∷ us) (units_are bytes (rest_are (is_itself a) (list_all is_itself bytes) h))

-- ---- its characters are its units

is_alone : (u v : ℕ) → u < 0x80 → IsPair u v → ⊥
is_alone u v low pair = let high = pair.0 in absurd (omega (arith, low, high))

one_character : (u : ℕ) → u < 0x80 → lone_unit_char u ≡ Some u
one_character u low = grind (arith, nat_tests)

characters_are : (bytes : List ℕ) → list_all is_itself bytes ≡ true → utf16_chars bytes ≡ map Some bytes
characters_are [] h = utf16_chars-nil
characters_are (u ∷ us) h =
    let low = below u (first_is (is_itself u) (list_all is_itself us) h) in
    utf16_chars_lone u us (is_alone u (get_or us 0 0) low)
    ∙ ap (λ (c : Option ℕ). c ∷ utf16_chars us) (one_character u low)
    ∙ ap (λ (cs : List (Option ℕ)). Some u ∷ cs) (characters_are us (rest_are (is_itself u) (list_all is_itself us) h))

none_alone : (bytes : List ℕ) → list_any (λ (o : Option ℕ). not (is_some o)) (map Some bytes) ≡ false
none_alone [] = refl
none_alone (u ∷ us) = none_alone us

all_there : (bytes : List ℕ) → map (λ (o : Option ℕ). unwrap_or o 0xFFFD) (map Some bytes) ≡ bytes
all_there [] = refl
all_there (u ∷ us) = ap (λ (xs : List ℕ). u ∷ xs) (all_there us)

-- ---- and so is its UTF-8

are_ascii : (bytes : List ℕ) → list_all is_itself bytes ≡ true → IsAscii bytes
are_ascii [] h i = omega arith
are_ascii (b ∷ bytes) h zero = below b (first_is (is_itself b) (list_all is_itself bytes) h)
are_ascii (b ∷ bytes) h (suc i) = are_ascii bytes (rest_are (is_itself b) (list_all is_itself bytes) h) i

abbrev text_by : Bool → List ℕ → Option (List ℕ)
text_by is_alone characters = if is_alone then None else Some (encode_utf8_all characters)

pub own_text : (bytes : List ℕ) → list_all is_itself bytes ≡ true → utf8_of (chars_units InText 0 bytes) ≡ Some bytes
own_text bytes h =
    ap utf8_of (units_are bytes h)
    ∙ ap (λ (os : List (Option ℕ)). text_by (list_any (λ (o : Option ℕ). not (is_some o)) os) (map (λ (o : Option ℕ). unwrap_or o 0xFFFD) os)) (characters_are bytes h)
    ∙ ap (λ (b : Bool). text_by b (map (λ (o : Option ℕ). unwrap_or o 0xFFFD) (map Some bytes))) (none_alone bytes)
    ∙ ap (λ (xs : List ℕ). Some (encode_utf8_all xs)) (all_there bytes)
    ∙ ap (λ (xs : List ℕ). Some xs) (encodes-IsAscii bytes (are_ascii bytes h))

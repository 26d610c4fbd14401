-- Tokens stay as they are: none has a blank outside of a string.
use Rattle.std.proofs.Common.{◌≡◌, ◌≢◌, ℕ, ◌<◌, ◌≤◌, ◌∙◌, List, [], ◌∷◌, ◌++◌, false, ap, sym, subst, refl, inl, inr, arith}
use Rattle.std.specs.Prelude.{◌==◌}
use Rattle.std.proofs.lemmas.Bool.Decides.{nat_tests}
use Rattle.jx_lex.specs.declared.kind.Kind.{Kind}
use Rattle.jx_lex.specs.declared.kind.Kind.TheVariants.{Object, Array, String, Number, True, False, Null}
use Rattle.jx_lex.specs.Character.{Utf8, one, two, three_e0, three_low, three_ed, three_high, four_f0, four_mid, four_f4}
use Rattle.jx_lex.specs.Token.{Digits, no_digits, digit, IsMinus, unsigned, minus, IsInt, zero_alone, leading, IsFrac, no_frac, frac, IsSign, no_sign, plus, minus_sign, IsE, IsExp, no_exp, exp, IsNumber, number, IsHexDigit, decimal, upper, lower, IsChar, character, escape, unit, Chars, no_chars, one_char, IsString, quoted, IsToken}
use Rattle.jx_compact.specs.declared.place.Place.{Place}
use Rattle.jx_compact.specs.declared.place.Place.TheVariants.{Between, Inside}
use Rattle.jx_compact.specs.Compact.{compact_from, next, place_behind}
use Rattle.jx_compact.proofs.Compacts.{goes_on}

-- bytes that all stay, behind which the next one stands there
pub record Stays (place : Place) (bytes : List ℕ) : Type 0 where
  pub form : compact_from place bytes ≡ bytes
  pub behind : place_behind place bytes ≡ place

behind_both : (place : Place) (front back : List ℕ) → place_behind place (front ++ back) ≡ place_behind (place_behind place front) back
behind_both place [] back = refl
behind_both place (b ∷ front) back = behind_both (next place b) front back

pub both : (place : Place) (front back : List ℕ) → Stays place front → Stays place back → Stays place (front ++ back)
both place front back x y = record {
  form =
      goes_on place front back
      ∙ ap (λ (f : List ℕ). f ++ compact_from (place_behind place front) back) x.form
      ∙ ap (λ (p : Place). front ++ compact_from p back) x.behind
      ∙ ap (λ (f : List ℕ). front ++ f) y.form;
  behind = behind_both place front back ∙ ap (λ (p : Place). place_behind p back) x.behind ∙ y.behind;
}

-- ---- in a string

inside : (b : ℕ) (bytes : List ℕ) → b ≢ 0x22 → b ≢ 0x5c → Stays Inside bytes → Stays Inside (b ∷ bytes)
inside b bytes n m s =
    let h : (b == 0x22) ≡ false = grind (arith, nat_tests) in
    let k : (b == 0x5c) ≡ false = grind (arith, nat_tests) in
    record {
      form = rw (h, k) (ap (λ (f : List ℕ). b ∷ f) s.form);
      behind = rw (h, k) s.behind;
    }

none_inside : Stays Inside []
none_inside = record { form = refl; behind = refl }

high : (b : ℕ) (bytes : List ℕ) → 0x80 ≤ b → Stays Inside bytes → Stays Inside (b ∷ bytes)
high b bytes h s = inside b bytes (λ e. omega (arith, e, h)) (λ e. omega (arith, e, h)) s

of_character : {w : List ℕ} {c : ℕ} → Utf8 w c → c ≢ 0x22 → c ≢ 0x5c → Stays Inside w
of_character (one {a = a} le) n m = inside a [] n m none_inside
of_character (two {a = a} {b = b} h t) n m =
    let x = h.from in let y = t.from in high a _ (omega arith) (high b _ y none_inside)
of_character (three_e0 {b = b} {c = c} h t) n m =
    let x = h.from in let y = t.from in high 0xe0 _ (omega arith) (high b _ (omega arith) (high c _ y none_inside))
of_character (three_low {a = a} {b = b} {c = c} h t u) n m =
    let x = h.from in let y = t.from in let z = u.from in high a _ (omega arith) (high b _ y (high c _ z none_inside))
of_character (three_ed {b = b} {c = c} h t) n m =
    let x = h.from in let y = t.from in high 0xed _ (omega arith) (high b _ x (high c _ y none_inside))
of_character (three_high {a = a} {b = b} {c = c} h t u) n m =
    let x = h.from in let y = t.from in let z = u.from in high a _ (omega arith) (high b _ y (high c _ z none_inside))
of_character (four_f0 {b = b} {c = c} {d = d} h t u) n m =
    let x = h.from in let y = t.from in let z = u.from in high 0xf0 _ (omega arith) (high b _ (omega arith) (high c _ y (high d _ z none_inside)))
of_character (four_mid {a = a} {b = b} {c = c} {d = d} h t u v) n m =
    let x = h.from in let y = t.from in let z = u.from in let w = v.from in high a _ (omega arith) (high b _ y (high c _ z (high d _ w none_inside)))
of_character (four_f4 {b = b} {c = c} {d = d} h t u) n m =
    let x = h.from in let y = t.from in let z = u.from in high 0xf4 _ (omega arith) (high b _ x (high c _ y (high d _ z none_inside)))

hex : (b : ℕ) (bytes : List ℕ) → IsHexDigit b → Stays Inside bytes → Stays Inside (b ∷ bytes)
hex b bytes (decimal h) s = let x = h.from in let y = h.to in inside b bytes (λ e. omega (arith, e, x)) (λ e. omega (arith, e, y)) s
hex b bytes (upper h) s = let x = h.from in let y = h.to in inside b bytes (λ e. omega (arith, e, x)) (λ e. omega (arith, e, y)) s
hex b bytes (lower h) s = let x = h.from in let y = h.to in inside b bytes (λ e. omega (arith, e, x)) (λ e. omega (arith, e, x)) s

escaped : (b : ℕ) (bytes : List ℕ) → Stays Inside bytes → Stays Inside (0x5c ∷ b ∷ bytes)
escaped b bytes s = record { form = ap (λ (f : List ℕ). 0x5c ∷ b ∷ f) s.form; behind = s.behind }

of_char : {w us : List ℕ} → IsChar w us → Stays Inside w
of_char (character utf p q r) = of_character utf q r
of_char (escape {b = b} e) = escaped b [] none_inside
of_char (unit {a = a} {b = b} {c = c} {d = d} h k l m) = escaped 0x75 _ (hex a _ h (hex b _ k (hex c _ l (hex d _ m none_inside))))

of_chars : {w us : List ℕ} → Chars w us → Stays Inside w
of_chars no_chars = none_inside
of_chars (one_char {w = w} {v = v} c cs) = both Inside w v (of_char c) (of_chars cs)

of_string : {w us : List ℕ} → IsString w us → Stays Between w
of_string (quoted {w} cs) =
    let s = of_chars cs in
    record {
      form =
          ap (λ (f : List ℕ). 0x22 ∷ f)
          (goes_on Inside w (0x22 ∷ []) ∙ ap (λ (f : List ℕ). f ++ compact_from (place_behind Inside w) (0x22 ∷ [])) s.form ∙ ap (λ (p : Place). w ++ compact_from p (0x22 ∷ [])) s.behind);
      behind = behind_both Inside w (0x22 ∷ []) ∙ ap (λ (p : Place). place_behind p (0x22 ∷ [])) s.behind;
    }

-- ---- between tokens

plain : (b : ℕ) (bytes : List ℕ) → 0x22 ≢ b → 0x20 < b → Stays Between bytes → Stays Between (b ∷ bytes)
plain b bytes n l s =
    let q : (b == 0x22) ≡ false = grind (arith, nat_tests) in
    let h : (b == 0x20) ≡ false = grind (arith, nat_tests) in
    let k : (b == 0x09) ≡ false = grind (arith, nat_tests) in
    let m : (b == 0x0a) ≡ false = grind (arith, nat_tests) in
    let o : (b == 0x0d) ≡ false = grind (arith, nat_tests) in
    record {
      form = rw (h, k, m, o, q) (ap (λ (f : List ℕ). b ∷ f) s.form);
      behind = rw q s.behind;
    }

pub none_between : Stays Between []
none_between = record { form = refl; behind = refl }

pub above : (b : ℕ) (bytes : List ℕ) → 0x22 < b → Stays Between bytes → Stays Between (b ∷ bytes)
above b bytes h s = plain b bytes (λ e. omega (arith, e, h)) (omega arith) s

of_digits : {w : List ℕ} → Digits w → Stays Between w
of_digits no_digits = none_between
of_digits (digit {b = b} {bs = bs} h ds) = let x = h.from in above b bs (omega arith) (of_digits ds)

of_minus : {w : List ℕ} → IsMinus w → Stays Between w
of_minus unsigned = none_between
of_minus minus = above 0x2d [] (omega arith) none_between

of_int : {w : List ℕ} → IsInt w → Stays Between w
of_int zero_alone = above 0x30 [] (omega arith) none_between
of_int (leading {b = b} {bs = bs} h ds) = let x = h.from in above b bs (omega arith) (of_digits ds)

of_frac : {w : List ℕ} → IsFrac w → Stays Between w
of_frac no_frac = none_between
of_frac (frac {b = b} {bs = bs} h ds) = let x = h.from in above 0x2e _ (omega arith) (above b bs (omega arith) (of_digits ds))

of_sign : {w : List ℕ} → IsSign w → Stays Between w
of_sign no_sign = none_between
of_sign plus = above 0x2b [] (omega arith) none_between
of_sign minus_sign = above 0x2d [] (omega arith) none_between

e_above : (e : ℕ) → IsE e → 0x22 < e
e_above e (inl h) = omega (arith, h)
e_above e (inr h) = omega (arith, h)

of_exp : {w : List ℕ} → IsExp w → Stays Between w
of_exp no_exp = none_between
of_exp (exp {e = e} {b = b} {sign = sign} {bs = bs} h s d ds) =
    let x = d.from in above e _ (e_above e h) (both Between sign (b ∷ bs) (of_sign s) (above b bs (omega arith) (of_digits ds)))

of_number : {w : List ℕ} → IsNumber w → Stays Between w
of_number (number {minus = m} {int = i} {frac = f} {exp = x} p q r s) =
    both Between m (i ++ (f ++ x)) (of_minus p) (both Between i (f ++ x) (of_int q) (both Between f x (of_frac r) (of_exp s)))

pub token_stays : (kind : Kind) (w : List ℕ) → IsToken kind w → Stays Between w
token_stays Object w h = absurd h
token_stays Array w h = absurd h
token_stays String w h = of_string h.1
token_stays Number w h = of_number h
token_stays True w h = subst (Stays Between) (sym h) (record { form = refl; behind = refl })
token_stays False w h = subst (Stays Between) (sym h) (record { form = refl; behind = refl })
token_stays Null w h = subst (Stays Between) (sym h) (record { form = refl; behind = refl })

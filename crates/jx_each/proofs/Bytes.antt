-- What single bytes and tokens do to the open containers: nothing.
use Rattle.std.specs.Prelude.{◌==◌, codes}
use Rattle.std.proofs.Common.{◌≡◌, ◌≢◌, ℕ, zero, suc, ◌<◌, ◌≤◌, inl, inr, List, [], ◌∷◌, ◌++◌, false, refl, sym, ap, subst, ◌∙◌, arith, lit≤, lit<}
use Rattle.std.proofs.lemmas.Bool.{ne_eqb}
use Rattle.jx_compact.specs.declared.place.Place.{Place}
use Rattle.jx_compact.specs.declared.place.Place.TheVariants.{Between, Inside}
use Rattle.jx_compact.specs.Compact.{next, place_behind}
use Rattle.jx_lex.specs.Character.{IsWithin, Utf8, one, two, three_e0, three_low, three_ed, three_high, four_f0, four_mid, four_f4}
use Rattle.jx_lex.specs.declared.kind.Kind.{Kind}
use Rattle.jx_lex.specs.declared.kind.Kind.TheVariants as kind
use Rattle.jx_lex.specs.Token.{IsBlank, space, tab, line_feed, carriage_return, Digits, no_digits, digit, IsMinus, unsigned, minus, IsInt, zero_alone, leading, IsFrac, no_frac, frac, IsSign, no_sign, plus, minus_sign, IsE, IsExp, no_exp, exp, IsNumber, number, IsHexDigit, decimal, upper, lower, IsChar, character, escape, unit, Chars, no_chars, one_char, IsString, quoted, IsToken}
use Rattle.jx_each.specs.declared.sign.Sign.TheVariants as sign
use Rattle.jx_each.specs.declared.sign.Turn.TheVariants.{Stay}
use Rattle.jx_each.specs.Turns.{sign_of, turn_by, turn_at, turned, height_next, height_behind}

-- each byte stays where it stands: it ends no element
abbrev pub StaysIn : Place → ℕ → List ℕ → Type 0
StaysIn place height [] = Unit {0}
StaysIn place height (b ∷ bs) = (turn_at place height b ≡ Stay) × StaysIn (next place b) (height_next place height b) bs

-- they lead from one place to another, and open and close the same containers, where so many are open at least
pub record Sits (p q : Place) (low : ℕ) (w : List ℕ) : Type 0 where
  pub stays : (h : ℕ) → low ≤ h → StaysIn p h w
  pub height : (h : ℕ) → low ≤ h → height_behind p h w ≡ h
  pub place : place_behind p w ≡ q

-- ---- one behind another

pub place_append : (p : Place) (v w : List ℕ) → place_behind p (v ++ w) ≡ place_behind (place_behind p v) w
place_append p [] w = refl
place_append p (b ∷ v) w = place_append (next p b) v w

pub height_append : (p : Place) (h : ℕ) (v w : List ℕ) → height_behind p h (v ++ w) ≡ height_behind (place_behind p v) (height_behind p h v) w
height_append p h [] w = refl
height_append p h (b ∷ v) w = height_append (next p b) (height_next p h b) v w

pub stays_append : (p : Place) (h : ℕ) (v w : List ℕ) → StaysIn p h v → StaysIn (place_behind p v) (height_behind p h v) w → StaysIn p h (v ++ w)
stays_append p h [] w x y = y
stays_append p h (b ∷ v) w x y = (x.0, stays_append (next p b) (height_next p h b) v w x.1 y)

pub then_sits : {p q r : Place} {low : ℕ} (v w : List ℕ) → Sits p q low v → Sits q r low w → Sits p r low (v ++ w)
then_sits {p} {q} {r} v w x y = record {
  stays = λ h le. stays_append p h v w (x.stays h le)
      (subst (λ (a : Place). StaysIn a (height_behind p h v) w) (sym x.place) (subst (λ (n : ℕ). StaysIn q n w) (sym (x.height h le)) (y.stays h le)));
  height = λ h le. height_append p h v w
      ∙ ap (λ (a : Place). height_behind a (height_behind p h v) w) x.place
      ∙ ap (λ (n : ℕ). height_behind q n w) (x.height h le)
      ∙ y.height h le;
  place = place_append p v w ∙ ap (λ (a : Place). place_behind a w) x.place ∙ y.place;
}

pub no_sits : (p : Place) (low : ℕ) → Sits p p low []
no_sits p low = record { stays = λ h le. tt; height = λ h le. refl; place = refl }

pub higher : {p q : Place} {low : ℕ} (high : ℕ) (w : List ℕ) → low ≤ high → Sits p q low w → Sits p q high w
higher {low = low} high w le x = record {
  stays = λ h l. x.stays h (omega (arith, le, l));
  height = λ h l. x.height h (omega (arith, le, l));
  place = x.place;
}

-- ---- bytes outside of strings

pub turn_other : (h : ℕ) → turn_by h sign.Other ≡ Stay
turn_other zero = refl
turn_other (suc zero) = refl
turn_other (suc (suc n)) = refl

other_next : (b : ℕ) → b ≢ 0x22 → next Between b ≡ Between
other_next b ne = let e : (b == 0x22) ≡ false = ne_eqb b 0x22 ne in rw e refl

pub other_sits : (b : ℕ) → sign_of b ≡ sign.Other → b ≢ 0x22 → Sits Between Between 0 (b ∷ [])
other_sits b e ne = record {
  stays = λ h le. (ap (turn_by h) e ∙ turn_other h, tt);
  height = λ h le. ap (turned h) e;
  place = other_next b ne;
}

plain_sign : (b : ℕ) → b ≢ 0x5b → b ≢ 0x7b → b ≢ 0x5d → b ≢ 0x7d → b ≢ 0x2c → b ≢ 0x3a → sign_of b ≡ sign.Other
plain_sign b n1 n2 n3 n4 n5 n6 =
    let e1 : (b == 0x5b) ≡ false = ne_eqb b 0x5b n1 in
    let e2 : (b == 0x7b) ≡ false = ne_eqb b 0x7b n2 in
    let e3 : (b == 0x5d) ≡ false = ne_eqb b 0x5d n3 in
    let e4 : (b == 0x7d) ≡ false = ne_eqb b 0x7d n4 in
    let e5 : (b == 0x2c) ≡ false = ne_eqb b 0x2c n5 in
    let e6 : (b == 0x3a) ≡ false = ne_eqb b 0x3a n6 in
    rw e1 (rw e2 (rw e3 (rw e4 (rw e5 (rw e6 refl)))))

-- a digit
digit_sits : (b : ℕ) → 0x30 ≤ b → b ≤ 0x39 → Sits Between Between 0 (b ∷ [])
digit_sits b from to = other_sits b
    (plain_sign b (λ e. omega (arith, from, to, e)) (λ e. omega (arith, from, to, e)) (λ e. omega (arith, from, to, e)) (λ e. omega (arith, from, to, e)) (λ e. omega (arith, from, to, e)) (λ e. omega (arith, from, to, e)))
    (λ e. omega (arith, from, to, e))

-- ---- numbers

plain_one : (b : ℕ) → sign_of b ≡ sign.Other → next Between b ≡ Between → Sits Between Between 0 (b ∷ [])
plain_one b e n = record { stays = λ h le. (ap (turn_by h) e ∙ turn_other h, tt); height = λ h le. ap (turned h) e; place = n }

dash_sits : Sits Between Between 0 (0x2d ∷ [])
dash_sits = plain_one 0x2d refl refl

zero_digit_sits : Sits Between Between 0 (0x30 ∷ [])
zero_digit_sits = plain_one 0x30 refl refl

dot_sits : Sits Between Between 0 (0x2e ∷ [])
dot_sits = plain_one 0x2e refl refl

plus_byte_sits : Sits Between Between 0 (0x2b ∷ [])
plus_byte_sits = plain_one 0x2b refl refl

small_e_sits : Sits Between Between 0 (0x65 ∷ [])
small_e_sits = plain_one 0x65 refl refl

large_e_sits : Sits Between Between 0 (0x45 ∷ [])
large_e_sits = plain_one 0x45 refl refl

digits_sit : {w : List ℕ} → Digits w → Sits Between Between 0 w
digits_sit no_digits = no_sits Between 0
digits_sit (digit {b = b} {bs = bs} d ds) = then_sits (b ∷ []) bs (digit_sits b d.from d.to) (digits_sit ds)

minus_sits : {w : List ℕ} → IsMinus w → Sits Between Between 0 w
minus_sits unsigned = no_sits Between 0
minus_sits minus = dash_sits

int_sits : {w : List ℕ} → IsInt w → Sits Between Between 0 w
int_sits zero_alone = zero_digit_sits
int_sits (leading {b = b} {bs = bs} d ds) = then_sits (b ∷ []) bs (digit_sits b (let from : _ ≤ b = d.from in omega (arith, from)) d.to) (digits_sit ds)

frac_sits : {w : List ℕ} → IsFrac w → Sits Between Between 0 w
frac_sits no_frac = no_sits Between 0
frac_sits (frac {b = b} {bs = bs} d ds) =
    then_sits (0x2e ∷ []) (b ∷ bs) (dot_sits) (then_sits (b ∷ []) bs (digit_sits b d.from d.to) (digits_sit ds))

sign_sits : {w : List ℕ} → IsSign w → Sits Between Between 0 w
sign_sits no_sign = no_sits Between 0
sign_sits plus = plus_byte_sits
sign_sits minus_sign = dash_sits

e_sits : (b : ℕ) → IsE b → Sits Between Between 0 (b ∷ [])
e_sits b h = elim h [
  | inl e ↦ subst (λ (x : ℕ). Sits Between Between 0 (x ∷ [])) (sym e) (small_e_sits)
  | inr e ↦ subst (λ (x : ℕ). Sits Between Between 0 (x ∷ [])) (sym e) (large_e_sits)
]

exp_sits : {w : List ℕ} → IsExp w → Sits Between Between 0 w
exp_sits no_exp = no_sits Between 0
exp_sits (exp {e = e} {b = b} {sign = s} {bs = bs} h k d ds) =
    then_sits (e ∷ []) (s ++ (b ∷ bs)) (e_sits e h) (then_sits s (b ∷ bs) (sign_sits k) (then_sits (b ∷ []) bs (digit_sits b d.from d.to) (digits_sit ds)))

number_sits : {w : List ℕ} → IsNumber w → Sits Between Between 0 w
number_sits (number {minus = m} {int = i} {frac = f} {exp = x} a b c d) =
    then_sits m (i ++ (f ++ x)) (minus_sits a) (then_sits i (f ++ x) (int_sits b) (then_sits f x (frac_sits c) (exp_sits d)))

-- ---- strings

char_sits : (b : ℕ) → b ≢ 0x22 → b ≢ 0x5c → Sits Inside Inside 0 (b ∷ [])
char_sits b q s = record {
  stays = λ h le. (refl, tt);
  height = λ h le. refl;
  place = let e : (b == 0x22) ≡ false = ne_eqb b 0x22 q in let f : (b == 0x5c) ≡ false = ne_eqb b 0x5c s in rw e (rw f refl);
}

-- a byte from 0x80 on
high_sits : (b : ℕ) → 0x80 ≤ b → Sits Inside Inside 0 (b ∷ [])
high_sits b le = char_sits b (λ e. omega (arith, le, e)) (λ e. omega (arith, le, e))

two_high : (a b : ℕ) → 0x80 ≤ a → 0x80 ≤ b → Sits Inside Inside 0 (a ∷ b ∷ [])
two_high a b x y = then_sits (a ∷ []) (b ∷ []) (high_sits a x) (high_sits b y)

three_high_bytes : (a b c : ℕ) → 0x80 ≤ a → 0x80 ≤ b → 0x80 ≤ c → Sits Inside Inside 0 (a ∷ b ∷ c ∷ [])
three_high_bytes a b c x y z = then_sits (a ∷ []) (b ∷ c ∷ []) (high_sits a x) (two_high b c y z)

four_high_bytes : (a b c d : ℕ) → 0x80 ≤ a → 0x80 ≤ b → 0x80 ≤ c → 0x80 ≤ d → Sits Inside Inside 0 (a ∷ b ∷ c ∷ d ∷ [])
four_high_bytes a b c d x y z v = then_sits (a ∷ []) (b ∷ c ∷ d ∷ []) (high_sits a x) (three_high_bytes b c d y z v)

-- within bounds from 0x80 on
above : {first last b : ℕ} → IsWithin first last b → 0x80 ≤ first → 0x80 ≤ b
above {first} {last} {b} w le = let from : first ≤ b = w.from in omega (arith, from, le)

utf8_sits : {w : List ℕ} {c : ℕ} → Utf8 w c → c ≢ 0x22 → c ≢ 0x5c → Sits Inside Inside 0 w
utf8_sits (one {a = a} le) q s = char_sits a q s
utf8_sits (two {a = a} {b = b} x y) q s = two_high a b (above x (lit≤ tt)) (above y (lit≤ tt))
utf8_sits (three_e0 {b = b} {c = c} x y) q s = three_high_bytes 0xe0 b c (lit≤ tt) (above x (lit≤ tt)) (above y (lit≤ tt))
utf8_sits (three_low {a = a} {b = b} {c = c} x y z) q s = three_high_bytes a b c (above x (lit≤ tt)) (above y (lit≤ tt)) (above z (lit≤ tt))
utf8_sits (three_ed {b = b} {c = c} x y) q s = three_high_bytes 0xed b c (lit≤ tt) (above x (lit≤ tt)) (above y (lit≤ tt))
utf8_sits (three_high {a = a} {b = b} {c = c} x y z) q s = three_high_bytes a b c (above x (lit≤ tt)) (above y (lit≤ tt)) (above z (lit≤ tt))
utf8_sits (four_f0 {b = b} {c = c} {d = d} x y z) q s = four_high_bytes 0xf0 b c d (lit≤ tt) (above x (lit≤ tt)) (above y (lit≤ tt)) (above z (lit≤ tt))
utf8_sits (four_mid {a = a} {b = b} {c = c} {d = d} x y z v) q s = four_high_bytes a b c d (above x (lit≤ tt)) (above y (lit≤ tt)) (above z (lit≤ tt)) (above v (lit≤ tt))
utf8_sits (four_f4 {b = b} {c = c} {d = d} x y z) q s = four_high_bytes 0xf4 b c d (lit≤ tt) (above x (lit≤ tt)) (above y (lit≤ tt)) (above z (lit≤ tt))

hex_char : {b first last : ℕ} → IsWithin first last b → (0x22 < first) → (last < 0x5c) → Sits Inside Inside 0 (b ∷ [])
hex_char {b} {first} {last} w lo hi =
    let from : first ≤ b = w.from in let to : b ≤ last = w.to in
    char_sits b (λ e. omega (arith, from, to, lo, hi, e)) (λ e. omega (arith, from, to, lo, hi, e))

lower_char : {b : ℕ} → IsWithin 0x61 0x66 b → Sits Inside Inside 0 (b ∷ [])
lower_char {b} w =
    let from : 0x61 ≤ b = w.from in
    char_sits b (λ e. omega (arith, from, e)) (λ e. omega (arith, from, e))

hex_sits : {b : ℕ} → IsHexDigit b → Sits Inside Inside 0 (b ∷ [])
hex_sits (decimal w) = hex_char w (lit< tt) (lit< tt)
hex_sits (upper w) = hex_char w (lit< tt) (lit< tt)
hex_sits (lower w) = lower_char w

-- a backslash and the byte behind it
escape_sits : (b : ℕ) → Sits Inside Inside 0 (0x5c ∷ b ∷ [])
escape_sits b = record { stays = λ h le. (refl, (refl, tt)); height = λ h le. refl; place = refl }

is_char_sits : {w us : List ℕ} → IsChar w us → Sits Inside Inside 0 w
is_char_sits (character u le q s) = utf8_sits u q s
is_char_sits (escape {b = b} e) = escape_sits b
is_char_sits (unit {a = a} {b = b} {c = c} {d = d} x y z v) =
    then_sits (0x5c ∷ 0x75 ∷ []) (a ∷ b ∷ c ∷ d ∷ []) (escape_sits 0x75)
    (then_sits (a ∷ []) (b ∷ c ∷ d ∷ []) (hex_sits x) (then_sits (b ∷ []) (c ∷ d ∷ []) (hex_sits y) (then_sits (c ∷ []) (d ∷ []) (hex_sits z) (hex_sits v))))

chars_sit : {w us : List ℕ} → Chars w us → Sits Inside Inside 0 w
chars_sit no_chars = no_sits Inside 0
chars_sit (one_char {w = w} {v = v} c cs) = then_sits w v (is_char_sits c) (chars_sit cs)

opens_string : Sits Between Inside 0 (0x22 ∷ [])
opens_string = record { stays = λ h le. (turn_other h, tt); height = λ h le. refl; place = refl }

ends_string : Sits Inside Between 0 (0x22 ∷ [])
ends_string = record { stays = λ h le. (refl, tt); height = λ h le. refl; place = refl }

string_sits : {w us : List ℕ} → IsString w us → Sits Between Between 0 w
string_sits (quoted {w = w} cs) = then_sits (0x22 ∷ []) (w ++ (0x22 ∷ [])) opens_string (then_sits w (0x22 ∷ []) (chars_sit cs) ends_string)

-- ---- blanks and tokens

pub blank_sits : (b : ℕ) → IsBlank b → Sits Between Between 0 (b ∷ [])
blank_sits b space = plain_one 0x20 refl refl
blank_sits b tab = plain_one 0x09 refl refl
blank_sits b line_feed = plain_one 0x0a refl refl
blank_sits b carriage_return = plain_one 0x0d refl refl

-- none of the structural bytes, and no quotation mark
abbrev pub PlainList : List ℕ → Type 0
PlainList [] = Unit {0}
PlainList (b ∷ bs) = (sign_of b ≡ sign.Other) × (next Between b ≡ Between) × PlainList bs

-- the letters of the literals
pub plain_list : (bs : List ℕ) → PlainList bs → Sits Between Between 0 bs
plain_list [] h = no_sits Between 0
plain_list (b ∷ bs) h = then_sits (b ∷ []) bs (plain_one b h.0 h.1) (plain_list bs h.2)

pub token_sits : (k : Kind) (w : List ℕ) → IsToken k w → Sits Between Between 0 w
token_sits kind.String w h = string_sits h.1
token_sits kind.Number w h = number_sits h
token_sits kind.True w h = subst (λ (x : List ℕ). Sits Between Between 0 x) (sym h) (plain_list (codes "true") ((refl, refl, (refl, refl, (refl, refl, (refl, refl, tt))))))
token_sits kind.False w h = subst (λ (x : List ℕ). Sits Between Between 0 x) (sym h) (plain_list (codes "false") ((refl, refl, (refl, refl, (refl, refl, (refl, refl, (refl, refl, tt)))))))
token_sits kind.Null w h = subst (λ (x : List ℕ). Sits Between Between 0 x) (sym h) (plain_list (codes "null") ((refl, refl, (refl, refl, (refl, refl, (refl, refl, tt))))))
token_sits kind.Object w h = absurd h
token_sits kind.Array w h = absurd h

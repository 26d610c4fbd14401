-- Values that are put together of values, with names that are not repeated.
use Rattle.std.proofs.Common.{◌≡◌, ◌≢◌, ℕ, zero, suc, ◌+◌, ◌-◌, ◌/◌, ◌%◌, ◌^◌, ◌<◌, ◌≤◌, Bool, true, false, cond, get_or, List, [], ◌∷◌, ◌++◌, length, take, drop, append_assoc, append-nil, decimal, refl, sym, ap, subst, ◌∙◌, inl, inr, arith}
use Rattle.std.specs.Prelude.{None, Some, slice_range, ◌==◌, ◌&&◌, ◌||◌, nat_le, nat_lt, not}
use Rattle.std.specs.Str.{bytes_eq}
use Rattle.std.specs.Char.Escape.{encode_utf16}
use Rattle.std.specs.List.{list_all}
use Rattle.std.proofs.lemmas.List.{drop_at, take_at, drop-drop, drop_more, drop_all, take-append-drop}
use Rattle.std.proofs.lemmas.Bool.{cases_lt}
use Rattle.std.proofs.lemmas.Bool.Decides.{nat_tests, not_from_Decides}
use Rattle.std.proofs.lemmas.Slice.Eq.{bytes_eq-Decides}
use Rattle.std.proofs.lemmas.Fmt.{decimal_by_steps}
use Rattle.std.proofs.lemmas.List.Folds.{list_all-append}
use Rattle.jx_lex.specs.declared.kind.Kind.{Kind}
use Rattle.jx_lex.specs.declared.kind.Kind.TheVariants as kind
use Rattle.jx_lex.specs.Character.{one}
use Rattle.jx_lex.specs.Token.{IsChar, character, Chars, no_chars, one_char, IsString, quoted, IsToken, IsDigit, Digits, no_digits, digit, unsigned, IsInt, zero_alone, leading, no_frac, no_exp, IsNumber, number}
use Rattle.jx_run.specs.Grammar.{no_blanks, Scalar, leaf, empty_array, array, object, last_item, item, last_member, member}
use Rattle.jx_run.specs.Tree.{node, no_children, child, span}
use Rattle.jx_index.specs.Repeats.{IsAmong}
use Rattle.jx_index.specs.Units.{units_at, between_marks, chars_units}
use Rattle.jx_index.specs.declared.units.Spelling.TheVariants.{InText}
use Rattle.jx_index.proofs.UnitLaws.{string_is}
use Rattle.jx_serve.specs.inside.Sound.{AreDistinct, names_of, IsValue, AreItems, AreMembers, is_plain, are_plain, is_digit, are_digits, is_natural, IsPlain}

-- ---- where bytes stand

next : (text : List ℕ) (i b : ℕ) (bytes : List ℕ) → drop i text ≡ b ∷ bytes → drop (suc i) text ≡ bytes
next text i b bytes at =
    let e : suc i ≡ i + 1 = omega arith in
    ap (λ n. drop n text) e ∙ sym (drop-drop 1 i text) ∙ ap (drop 1) at

behind : (text w rest : List ℕ) (i : ℕ) → drop i text ≡ w ++ rest → drop (i + length w) text ≡ rest
behind text w rest i at = sym (drop-drop (length w) i text) ∙ ap (drop (length w)) at ∙ drop_at w rest (length w) refl

bytes_are : (text w rest : List ℕ) (i : ℕ) → drop i text ≡ w ++ rest → slice_range text i (i + length w) ≡ w
bytes_are text w rest i at = ap (take ((i + length w) - i)) at ∙ take_at w rest ((i + length w) - i) (omega arith)

units_are : (text w us rest : List ℕ) (i : ℕ) → IsString w us → drop i text ≡ w ++ rest → units_at text (span i (i + length w)) ≡ us
unfolding units_at
units_are text w us rest i s at = ap (λ x. chars_units InText 0 (between_marks x)) (bytes_are text w rest i at) ∙ string_is s

scalar : (k : Kind) (w rest : List ℕ) (i : ℕ) → IsToken k w → Scalar k i (w ++ rest) (i + length w) rest
scalar k w rest i t = record { token = w; is_token = t; whole = refl; end = refl }

-- ---- strings and numbers

pub a_string : (limit : ℕ) (w us rest : List ℕ) → IsString w us → IsValue limit (w ++ rest) rest
a_string limit w us rest s text i at = record {
  end = i + length w;
  tree = node kind.String (span i (i + length w)) no_children;
  reads = leaf (scalar kind.String w rest i (us, s));
  left = behind text w rest i at;
  within = omega arith;
  unique = (tt, tt);
}

pub a_number : (limit : ℕ) (w rest : List ℕ) → IsNumber w → IsValue limit (w ++ rest) rest
a_number limit w rest s text i at = record {
  end = i + length w;
  tree = node kind.Number (span i (i + length w)) no_children;
  reads = leaf (scalar kind.Number w rest i s);
  left = behind text w rest i at;
  within = omega arith;
  unique = (tt, tt);
}

-- ---- members and objects

pub members_end : (limit : ℕ) (w us bytes rest : List ℕ) → IsString w us → IsValue limit bytes rest → AreMembers limit (us ∷ []) (w ++ (0x3a ∷ bytes)) rest
members_end limit w us bytes rest s v text i at =
    let j = i + length w in
    let x = v text (suc j) (next text j 0x3a bytes (behind text w (0x3a ∷ bytes) i at)) in
    record {
      end = x.end;
      children = child (Some (span i j)) x.tree no_children;
      reads = last_member no_blanks (scalar kind.String w (0x3a ∷ bytes) i (us, s)) no_blanks no_blanks x.reads no_blanks;
      left = x.left;
      within = omega (arith, x.within);
      named = ap (λ n. n ∷ []) (units_are text w us (0x3a ∷ bytes) i s at);
      unique = (x.unique, tt);
    }

pub members_on : (limit : ℕ) (names : List (List ℕ)) (w us bytes more rest : List ℕ) → IsString w us → IsValue limit bytes (0x2c ∷ more) → AreMembers limit names more rest
    → AreMembers limit (us ∷ names) (w ++ (0x3a ∷ bytes)) rest
members_on limit names w us bytes more rest s v m text i at =
    let j = i + length w in
    let x = v text (suc j) (next text j 0x3a bytes (behind text w (0x3a ∷ bytes) i at)) in
    let y = m text (suc x.end) (next text x.end 0x2c more x.left) in
    record {
      end = y.end;
      children = child (Some (span i j)) x.tree y.children;
      reads = member no_blanks (scalar kind.String w (0x3a ∷ bytes) i (us, s)) no_blanks no_blanks x.reads no_blanks y.reads;
      left = y.left;
      within = omega (arith, x.within, y.within);
      named = ap (λ n. n ∷ names_of text y.children) (units_are text w us (0x3a ∷ bytes) i s at) ∙ ap (λ ns. us ∷ ns) y.named;
      unique = (x.unique, y.unique);
    }

pub an_object : (limit : ℕ) (names : List (List ℕ)) (bytes rest : List ℕ) → AreDistinct names → AreMembers limit names bytes (0x7d ∷ rest) → IsValue (suc limit) (0x7b ∷ bytes) rest
an_object limit names bytes rest d m text i at =
    let y = m text (suc i) (next text i 0x7b bytes at) in
    record {
      end = suc y.end;
      tree = node kind.Object (span i (suc y.end)) y.children;
      reads = object y.reads;
      left = next text y.end 0x7d rest y.left;
      within = omega (arith, y.within);
      unique = (subst AreDistinct (sym y.named) d, y.unique);
    }

-- ---- names that are known

abbrev is_among : List ℕ → List (List ℕ) → Bool
is_among x [] = false
is_among x (y ∷ ys) = bytes_eq y x || is_among x ys

abbrev pub are_distinct : List (List ℕ) → Bool
are_distinct [] = true
are_distinct (x ∷ xs) = not (is_among x xs) && are_distinct xs

neither : (a b : Bool) → a || b ≡ false → (a ≡ false) × (b ≡ false)
neither true b h = absurd cc
neither false b h = (refl, h)

both : (a b : Bool) → a && b ≡ true → (a ≡ true) × (b ≡ true)
both true b h = (refl, h)
both false b h = absurd cc

is_not : (a : Bool) → not a ≡ true → a ≡ false
is_not true h = absurd cc
is_not false h = refl

not_among : (x : List ℕ) (xs : List (List ℕ)) → is_among x xs ≡ false → IsAmong x xs → ⊥
not_among x [] h a = a
not_among x (y ∷ ys) h (inl e) = not_from_Decides (bytes_eq y x) (bytes_eq-Decides y x) (neither (bytes_eq y x) (is_among x ys) h).0 e
not_among x (y ∷ ys) h (inr a) = not_among x ys (neither (bytes_eq y x) (is_among x ys) h).1 a

pub distinct_by : (xs : List (List ℕ)) → are_distinct xs ≡ true → AreDistinct xs
distinct_by [] h = tt
distinct_by (x ∷ xs) h =
    let t = both (not (is_among x xs)) (are_distinct xs) h in
    (not_among x xs (is_not (is_among x xs) t.0), distinct_by xs t.1)

-- ---- elements and arrays

pub items_end : (limit : ℕ) (bytes rest : List ℕ) → IsValue limit bytes rest → AreItems limit bytes rest
items_end limit bytes rest v text i at =
    let x = v text i at in
    record { end = x.end; children = child None x.tree no_children; reads = last_item no_blanks x.reads no_blanks; left = x.left; within = omega (arith, x.within); unique = (x.unique, tt) }

pub items_on : (limit : ℕ) (bytes more rest : List ℕ) → IsValue limit bytes (0x2c ∷ more) → AreItems limit more rest → AreItems limit bytes rest
items_on limit bytes more rest v m text i at =
    let x = v text i at in
    let y = m text (suc x.end) (next text x.end 0x2c more x.left) in
    record {
      end = y.end;
      children = child None x.tree y.children;
      reads = item no_blanks x.reads no_blanks y.reads;
      left = y.left;
      within = omega (arith, x.within, y.within);
      unique = (x.unique, y.unique);
    }

pub no_items : (limit : ℕ) (rest : List ℕ) → IsValue (suc limit) (0x5b ∷ 0x5d ∷ rest) rest
no_items limit rest text i at = record {
  end = suc (suc i);
  tree = node kind.Array (span i (suc (suc i))) no_children;
  reads = empty_array no_blanks;
  left = next text (suc i) 0x5d rest (next text i 0x5b (0x5d ∷ rest) at);
  within = omega arith;
  unique = (tt, tt);
}

pub an_array : (limit : ℕ) (bytes rest : List ℕ) → AreItems limit bytes (0x5d ∷ rest) → IsValue (suc limit) (0x5b ∷ bytes) rest
an_array limit bytes rest m text i at =
    let y = m text (suc i) (next text i 0x5b bytes at) in
    record {
      end = suc y.end;
      tree = node kind.Array (span i (suc y.end)) y.children;
      reads = array y.reads;
      left = next text y.end 0x5d rest y.left;
      within = omega (arith, y.within);
      unique = (tt, y.unique);
    }

-- ---- plain strings

one_unit : (a : ℕ) → a < 0x1_0000 → encode_utf16 a ≡ a ∷ []
one_unit a h = let t : nat_lt a 0x1_0000 ≡ true = grind (arith, nat_tests) in rw t refl

plain_char : (b : ℕ) → is_plain b ≡ true → IsChar (b ∷ []) (b ∷ [])
plain_char b h =
    let low : 0x20 ≤ b = grind (arith, nat_tests) in
    let high : b ≤ 0x7e = grind (arith, nat_tests) in
    let mark : b ≢ 0x22 = grind (arith, nat_tests) in
    let backslash : b ≢ 0x5c = grind (arith, nat_tests) in
    subst (IsChar (b ∷ [])) (one_unit b (omega arith)) (character (one (omega arith)) low mark backslash)

plain_chars : (w : List ℕ) → list_all is_plain w ≡ true → Chars w w
plain_chars [] h = no_chars
plain_chars (b ∷ bs) h = let x = both (is_plain b) (list_all is_plain bs) h in one_char (plain_char b x.0) (plain_chars bs x.1)

pub plain_string : (w : List ℕ) → list_all is_plain w ≡ true → IsString (0x22 ∷ (w ++ (0x22 ∷ []))) w
plain_string w h = quoted (plain_chars w h)

-- ---- decimal digits

-- digits of which the first is no zero, where the number is none
record AreDigits (n : ℕ) (ds : List ℕ) : Type 0 where
  int : IsInt ds
  grows : 0 < n → (more : List ℕ) → Digits more → IsInt (ds ++ more)

one_digit : (n : ℕ) → n < 10 → AreDigits n ((48 + n) ∷ [])
one_digit n h = elim (cases_lt 0 n) [
  | inl more ↦ record {
    int = leading (record { from = omega arith; to = omega arith }) no_digits;
    grows = λ m ds d. leading (record { from = omega arith; to = omega arith }) d;
  }
  | inr none ↦ (
      let zero_is : n ≡ 0 = omega arith in
      record {
        int = subst (λ (k : ℕ). IsInt ((48 + k) ∷ [])) (sym zero_is) zero_alone;
        grows = λ m. absurd (omega (arith, none, m));
      })
]

more_digits : (n : ℕ) (ds : List ℕ) → 10 ≤ n → AreDigits (n / 10) ds → AreDigits n (ds ++ ((48 + n % 10) ∷ []))
more_digits n ds h a =
    let some : 0 < n / 10 = omega (arith, h) in
    let last : IsDigit (48 + n % 10) = record { from = omega arith; to = omega arith } in
    record {
      int = a.grows some ((48 + n % 10) ∷ []) (digit last no_digits);
      grows = λ m more d. subst IsInt (sym (append_assoc ds ((48 + n % 10) ∷ []) more)) (a.grows some ((48 + n % 10) ∷ more) (digit last d));
    }

pub int_number : (w : List ℕ) → IsInt w → IsNumber w
int_number w h = subst IsNumber (append-nil w) (number unsigned h no_frac no_exp)

pub decimal_number : (n : ℕ) → n < 2 ^ 64 → IsNumber (decimal n)
decimal_number n h = int_number (decimal n) (decimal_by_steps AreDigits one_digit more_digits n h).int

digit_plain : (b : ℕ) → 0x30 ≤ b → b ≤ 0x39 → is_plain b ≡ true
digit_plain b h k = grind (arith, nat_tests)

one_plain : (n : ℕ) → n < 10 → list_all is_plain ((48 + n) ∷ []) ≡ true
one_plain n h = rw (digit_plain (48 + n) (omega arith) (omega arith)) refl

more_plain : (n : ℕ) (ds : List ℕ) → 10 ≤ n → list_all is_plain ds ≡ true → list_all is_plain (ds ++ ((48 + n % 10) ∷ [])) ≡ true
more_plain n ds h p = list_all-append is_plain ds ((48 + n % 10) ∷ []) ∙ ap (λ t. t && list_all is_plain ((48 + n % 10) ∷ [])) p ∙ one_plain (n % 10) (omega arith)

pub decimal_plain : (n : ℕ) → n < 2 ^ 64 → list_all is_plain (decimal n) ≡ true
decimal_plain n h = decimal_by_steps (λ k ds. list_all is_plain ds ≡ true) one_plain more_plain n h

-- ---- bytes that are known to be JSON

plain_digit : (b : ℕ) → is_digit b ≡ true → IsDigit b
plain_digit b h = record { from = grind (arith, nat_tests); to = grind (arith, nat_tests) }

plain_digits : (bs : List ℕ) → are_digits bs ≡ true → Digits bs
plain_digits [] h = no_digits
plain_digits (b ∷ bs) h = let t = both (is_digit b) (are_digits bs) h in digit (plain_digit b t.0) (plain_digits bs t.1)

empty : (xs : List ℕ) → length xs ≡ 0 → xs ≡ []
empty [] e = refl
empty (x ∷ xs) e = absurd (omega (arith, e))

pub natural_number : (w : List ℕ) → is_natural w ≡ true → IsNumber w
natural_number [] h = absurd cc
natural_number (b ∷ bs) h = pick (b == 0x30) refl h
  where
    pick : (t : Bool) → (b == 0x30) ≡ t → cond t (length bs == 0) (nat_le 0x31 b && nat_le b 0x39 && are_digits bs) ≡ true → IsNumber (b ∷ bs)
    pick true e f =
        let is : b ≡ 0x30 = grind (arith, nat_tests) in
        let none : length bs ≡ 0 = grind (arith, nat_tests) in
        int_number (b ∷ bs) (subst (λ (x : List ℕ). IsInt (b ∷ x)) (sym (empty bs none)) (subst (λ (x : ℕ). IsInt (x ∷ [])) (sym is) zero_alone))
    pick false e f =
        let t = both (nat_le 0x31 b && nat_le b 0x39) (are_digits bs) f in
        let u = both (nat_le 0x31 b) (nat_le b 0x39) t.0 in
        let from : 0x31 ≤ b = grind (arith, nat_tests) in
        let to : b ≤ 0x39 = grind (arith, nat_tests) in
        int_number (b ∷ bs) (leading (record { from = from; to = to }) (plain_digits bs t.1))

-- what stands between quotation marks at both ends
pub quoted_by : (bytes inside : List ℕ) (last : ℕ) → last ≡ length bytes - 1 → 0 < last → get_or bytes 0 0 ≡ 0x22 → get_or bytes last 0 ≡ 0x22 → inside ≡ slice_range bytes 1 last
    → bytes ≡ 0x22 ∷ (inside ++ (0x22 ∷ []))
quoted_by [] inside last e more f l i = absurd (omega (arith, e, more))
quoted_by (b ∷ bs) inside zero e more f l i = absurd (omega (arith, more))
quoted_by (b ∷ bs) inside (suc k) e more f l i =
    let n : suc k - 1 ≡ k = omega arith in
    let is : inside ≡ take k bs = i ∙ ap (λ (m : ℕ). take m bs) n in
    let low : k < length bs = omega (arith, e) in
    let end : drop k bs ≡ 0x22 ∷ [] = drop_more bs k 0 low ∙ ap (λ (x : ℕ). x ∷ drop (k + 1) bs) l ∙ ap (λ (xs : List ℕ). 0x22 ∷ xs) (drop_all (k + 1) bs (omega (arith, e))) in
    ap (λ (x : ℕ). x ∷ bs) f ∙ ap (λ (xs : List ℕ). 0x22 ∷ xs) (sym (take-append-drop k bs) ∙ ap (λ (xs : List ℕ). xs ++ drop k bs) (sym is) ∙ ap (λ (xs : List ℕ). inside ++ xs) end)

pub plain_by : (bytes inside : List ℕ) → bytes ≡ 0x22 ∷ (inside ++ (0x22 ∷ [])) → are_plain inside ≡ true → IsPlain bytes
plain_by bytes inside e p = (inside, (p, e))

-- A number has one spelling by digits without a leading 0.
use Rattle.std.proofs.Common.{◌≡◌, ℕ, ◌+◌, ◌-◌, ◌*◌, ◌<◌, ◌≤◌, List, [], ◌∷◌, length, Bool, true, false, refl, sym, ap, ◌∙◌, arith}
use Rattle.std.specs.Prelude.{◌==◌, ◌&&◌, not, nat_le}
use Rattle.std.proofs.lemmas.Bool.Decides.{nat_tests}
use Rattle.jx_index.specs.ArrayTokens.{all_digits, is_digit, is_index, value_after}
use Rattle.jx_index.specs.inside.Finding.{is_place}
use Rattle.jx_index.proofs.Tests.{first_true, second_true}

record Digit (d : ℕ) : Type 0 where
  from : 48 ≤ d
  to : d ≤ 57

digit : (d : ℕ) → is_digit d ≡ true → Digit d
digit d h =
    let a = first_true (nat_le 0x30 d) (nat_le d 0x39) h in
    let b = second_true (nat_le 0x30 d) (nat_le d 0x39) h in
    record { from = grind (arith, nat_tests); to = grind (arith, nat_tests) }

-- of as many digits, what begins below stays below
less : (us vs : List ℕ) (a b : ℕ) → all_digits us ≡ true → all_digits vs ≡ true → length us ≡ length vs → a < b → value_after a us < value_after b vs
less [] [] a b h g l below = below
less [] (v ∷ vs) a b h g l below = absurd (omega (arith, l))
less (u ∷ us) [] a b h g l below = absurd (omega (arith, l))
less (u ∷ us) (v ∷ vs) a b h g l below =
    let d = digit u (first_true (is_digit u) (all_digits us) h) in
    let top = d.to in
    less us vs (a * 10 + (u - 48)) (b * 10 + (v - 48)) (second_true (is_digit u) (all_digits us) h) (second_true (is_digit v) (all_digits vs) g) (omega (arith, l)) (omega (arith, below, top))

-- more digits are more, where the first is not 0
longer : (us vs : List ℕ) (a b : ℕ) → all_digits us ≡ true → all_digits vs ≡ true → length us < length vs → a ≤ 9 → 1 ≤ b → value_after a us < value_after b vs
longer us [] a b h g l small some = absurd (omega (arith, l))
longer us (v ∷ vs) a b h g l small some = pick (length us == length vs) refl (λ q. longer us vs a (b * 10 + (v - 48)) h (second_true (is_digit v) (all_digits vs) g) q small (omega (arith, some)))
  where
    more : all_digits vs ≡ true
    more = second_true (is_digit v) (all_digits vs) g

    pick : (c : Bool) → (length us == length vs) ≡ c → (length us < length vs → value_after a us < value_after (b * 10 + (v - 48)) vs) → value_after a us < value_after (b * 10 + (v - 48)) vs
    pick true e on = let q : length us ≡ length vs = grind (arith, nat_tests) in less us vs a (b * 10 + (v - 48)) h more q (omega (arith, small, some))
    pick false e on = let q : length us < length vs = grind (arith, nat_tests) in on q

record Same (a b : ℕ) (us vs : List ℕ) : Type 0 where
  number : a ≡ b
  units : us ≡ vs

same : (us vs : List ℕ) (a b : ℕ) → all_digits us ≡ true → all_digits vs ≡ true → length us ≡ length vs → value_after a us ≡ value_after b vs → Same a b us vs
same [] [] a b h g l e = record { number = e; units = refl }
same [] (v ∷ vs) a b h g l e = absurd (omega (arith, l))
same (u ∷ us) [] a b h g l e = absurd (omega (arith, l))
same (u ∷ us) (v ∷ vs) a b h g l e =
    let s = same us vs (a * 10 + (u - 48)) (b * 10 + (v - 48)) (second_true (is_digit u) (all_digits us) h) (second_true (is_digit v) (all_digits vs) g) (omega (arith, l)) e in
    let d = digit u (first_true (is_digit u) (all_digits us) h) in
    let f = digit v (first_true (is_digit v) (all_digits vs) g) in
    let n = s.number in
    let p = d.from in
    let q = d.to in
    let r = f.from in
    let t = f.to in
    let uv : u ≡ v = omega (arith, n, p, q, r, t) in
    record { number = omega (arith, n, p, q, r, t); units = ap (λ (x : ℕ). x ∷ us) uv ∙ ap (λ (xs : List ℕ). v ∷ xs) s.units }

-- the first digit and the others
record Split (u : List ℕ) : Type 0 where
  first : ℕ
  others : List ℕ
  is : u ≡ first ∷ others
  digits : all_digits others ≡ true
  from : 48 ≤ first
  to : first ≤ 57
  leading : 0 < length others → 1 ≤ first - 48

split : (u : List ℕ) → is_index u ≡ true → Split u
split [] h = absurd (cc)
split (a ∷ []) h = let d = digit a h in record { first = a; others = []; is = refl; digits = refl; from = d.from; to = d.to; leading = λ l. absurd (omega (arith, l)) }
split (a ∷ b ∷ us) h =
    let front = first_true (is_digit a && not (a == 0x30)) (all_digits (b ∷ us)) h in
    let d = digit a (first_true (is_digit a) (not (a == 0x30)) front) in
    let n = second_true (is_digit a) (not (a == 0x30)) front in
    let p = d.from in
    record {
      first = a;
      others = b ∷ us;
      is = refl;
      digits = second_true (is_digit a && not (a == 0x30)) (all_digits (b ∷ us)) h;
      from = d.from;
      to = d.to;
      leading = λ l. apart (a == 0x30) refl n p;
    }
  where
    apart : (c : Bool) → (a == 0x30) ≡ c → not (a == 0x30) ≡ true → 48 ≤ a → 1 ≤ a - 48
    apart true e n p = let m : not true ≡ true = sym (ap not e) ∙ n in absurd (cc)
    apart false e n p = let q : (a ≡ 48 → ⊥) = λ z. grind (arith, nat_tests) in grind (arith, nat_tests)

value_split : (u : List ℕ) (s : Split u) → value_after 0 u ≡ value_after (s.first - 48) s.others
value_split u s = ap (value_after 0) s.is ∙ ap (λ (n : ℕ). value_after n s.others) (let e : 0 * 10 + (s.first - 48) ≡ s.first - 48 = omega arith in e)

pub same_digits : (u v : List ℕ) (place : ℕ) → is_place u place ≡ true → is_place v place ≡ true → u ≡ v
same_digits u v place h g =
    let s = split u (first_true (is_index u) (value_after 0 u == place) h) in
    let t = split v (first_true (is_index v) (value_after 0 v == place) g) in
    let a = second_true (is_index u) (value_after 0 u == place) h in
    let b = second_true (is_index v) (value_after 0 v == place) g in
    let p : value_after 0 u ≡ place = grind (arith, nat_tests) in
    let q : value_after 0 v ≡ place = grind (arith, nat_tests) in
    by s t (sym (value_split u s) ∙ p ∙ sym q ∙ value_split v t) (length s.others == length t.others) refl
  where
    by : (s : Split u) (t : Split v) → value_after (s.first - 48) s.others ≡ value_after (t.first - 48) t.others → (c : Bool) → (length s.others == length t.others) ≡ c → u ≡ v
    by s t e true l =
        let long : length s.others ≡ length t.others = grind (arith, nat_tests) in
        let r = same s.others t.others (s.first - 48) (t.first - 48) s.digits t.digits long e in
        let n = r.number in
        let i = s.from in
        let j = t.from in
        let f : s.first ≡ t.first = omega (arith, n, i, j) in
        s.is ∙ ap (λ (x : ℕ). x ∷ s.others) f ∙ ap (λ (xs : List ℕ). t.first ∷ xs) r.units ∙ sym t.is
    by s t e false l = apart (nat_le (length s.others) (length t.others)) refl
      where
        apart : (c : Bool) → nat_le (length s.others) (length t.others) ≡ c → u ≡ v
        apart true m =
            let short : length s.others < length t.others = grind (arith, nat_tests) in
            let i = s.to in
            let low = longer s.others t.others (s.first - 48) (t.first - 48) s.digits t.digits short (omega (arith, i)) (t.leading (omega (arith, short))) in
            absurd (omega (arith, low, e))
        apart false m =
            let short : length t.others < length s.others = grind (arith, nat_tests) in
            let i = t.to in
            let low = longer t.others s.others (t.first - 48) (s.first - 48) t.digits s.digits short (omega (arith, i)) (s.leading (omega (arith, short))) in
            absurd (omega (arith, low, e))

-- One digit more of a number.
use Rattle.std.proofs.Common.{◌≡◌, ℕ, ◌+◌, ◌-◌, ◌*◌, ◌<◌, ◌≤◌, min, true, List, take, length, get_or, inl, inr, refl, sym, ap, ◌∙◌, arith, lt-ltb, le-ltb}
use Rattle.std.specs.Prelude.{◌&&◌}
use Rattle.std.specs.Char.{is_ascii_digit, digit_value}
use Rattle.std.specs.List.{list_all}
use Rattle.std.specs.Str.Parse.{digits_value}
use Rattle.std.proofs.Math.Nat.{min-eq_left, min-eq_right}
use Rattle.std.proofs.lemmas.Bool.{cases_lt}
use Rattle.std.proofs.lemmas.Bool.Decides.{nat_tests}
use Rattle.std.proofs.lemmas.Int.Digits.{digits_value_more}
use Rattle.std.proofs.lemmas.List.Folds.{list_all_more}

capped : (v d : ℕ) → min (min v 4294967296 * 10 + d) 4294967296 ≡ min (v * 10 + d) 4294967296
capped v d =
    elim (cases_lt v 4294967296) [
      | inl h ↦ (
          let e : min v 4294967296 ≡ v = min-eq_left (omega arith) in
          ap (λ n. min (n * 10 + d) 4294967296) e)
      | inr h ↦ (
          let e : min v 4294967296 ≡ 4294967296 = min-eq_right h in
          let f : min (4294967296 * 10 + d) 4294967296 ≡ 4294967296 = min-eq_right (omega arith) in
          let g : min (v * 10 + d) 4294967296 ≡ 4294967296 = min-eq_right (omega arith) in
          ap (λ n. min (n * 10 + d) 4294967296) e ∙ f ∙ sym g)
    ]

digit_is : (c : ℕ) → is_ascii_digit c ≡ true → digit_value c ≡ c - 48
digit_is c h =
    let low : 48 ≤ c = grind (arith, nat_tests) in
    let high : c ≤ 57 = grind (arith, nat_tests) in
    rw (le-ltb c 48 low, lt-ltb c 58 (omega arith)) refl

pub one_digit : (ds : List ℕ) (i number next : ℕ) → i < length ds → is_ascii_digit (get_or ds i 0) ≡ true → number ≡ min (digits_value 10 (take i ds)) 4294967296
    → list_all is_ascii_digit (take i ds) ≡ true → next ≡ min (number * 10 + (get_or ds i 0 - 48)) 4294967296
    → (next ≡ min (digits_value 10 (take (i + 1) ds)) 4294967296) × (list_all is_ascii_digit (take (i + 1) ds) ≡ true)
one_digit ds i number next l p n a e =
    let d = digit_is (get_or ds i 0) p in (
      e
          ∙ ap (λ k. min (k * 10 + (get_or ds i 0 - 48)) 4294967296) n
          ∙ capped (digits_value 10 (take i ds)) (get_or ds i 0 - 48)
          ∙ ap (λ k. min (digits_value 10 (take i ds) * 10 + k) 4294967296) (sym d)
          ∙ ap (λ k. min k 4294967296) (sym (digits_value_more 10 ds i l)),
      list_all_more is_ascii_digit ds i 0 l ∙ ap (λ b. b && is_ascii_digit (get_or ds i 0)) a ∙ p,
    )

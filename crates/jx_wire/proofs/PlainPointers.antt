-- The pointers to encodings have no escapes.
use Rattle.std.proofs.Common.{◌≡◌, ℕ, zero, suc, ◌+◌, ◌%◌, ◌^◌, ◌<◌, Bool, true, false, eqb, not, List, [], ◌∷◌, ◌++◌, length, refl, ap, arith, slice_index, codes, decimal}
use Rattle.std.specs.List.{list_all}
use Rattle.std.proofs.lemmas.Fmt.{decimal_by_steps}
use Rattle.std.proofs.lemmas.Bool.{and_parts}
use Rattle.jx_index.specs.Pointers.{IsPointer}
use Rattle.jx_wire.specs.Requests.{encoding_pointer}

-- no ~, which begins an escape
abbrev has_no_tilde : List ℕ → Bool
has_no_tilde bytes = list_all (λ b. not (eqb b 0x7e)) bytes

no_tilde_at : (p : List ℕ) (at : ℕ) → has_no_tilde p ≡ true → at < length p → slice_index p at ≡ 0x7e → ⊥
no_tilde_at [] at e within here = absurd (omega (arith, within))
no_tilde_at (b ∷ bs) zero e within here =
    let none = (and_parts (not (eqb b 0x7e)) (has_no_tilde bs) e).0 in
    let some : not (eqb b 0x7e) ≡ false = ap (λ n. not (eqb n 0x7e)) here in
    absurd cc
no_tilde_at (b ∷ bs) (suc at) e within here =
    no_tilde_at bs at (and_parts (not (eqb b 0x7e)) (has_no_tilde bs) e).1 (omega (arith, within)) here

both_plain : (a b : List ℕ) → has_no_tilde a ≡ true → has_no_tilde b ≡ true → has_no_tilde (a ++ b) ≡ true
both_plain [] b p q = q
both_plain (x ∷ a) b p q = let is = and_parts (not (eqb x 0x7e)) (has_no_tilde a) p in let first = is.0 in let more = both_plain a b is.1 q in rw (first, more) refl

one_digit : (n : ℕ) → n < 10 → has_no_tilde ((48 + n) ∷ []) ≡ true
one_digit n h = let no : eqb (48 + n) 0x7e ≡ false = grind arith in rw no refl

digits_plain : (n : ℕ) → n < 2 ^ 64 → has_no_tilde (decimal n) ≡ true
digits_plain = decimal_by_steps (λ n ds. has_no_tilde ds ≡ true) one_digit
    (λ n ds h so_far. both_plain ds ((48 + n % 10) ∷ []) so_far (one_digit (n % 10) (omega arith)))

pub encoding_is : (n : ℕ) → n < 2 ^ 64 → IsPointer (encoding_pointer n)
encoding_is n h = record {
  slash = λ some. refl;
  escapes = λ at bad. no_tilde_at (encoding_pointer n) at (both_plain (codes "/params/capabilities/general/positionEncodings/") (decimal n) refl (digits_plain n h)) bad.within bad.tilde;
}

use Rattle.std.proofs.Common.{◌≡◌, ◌+◌, ◌<◌, ◌≤◌, ◌⊎◌, ◌-◌, ◌*◌, ◌%◌, ◌^◌, ℕ, suc, Bool, true, false, inl, inr, refl, sym, subst, ◌∙◌, arith, w64, bit_and, get_or}
use Rattle.std.specs.Int.{trailing_zeros}
use Rattle.std.proofs.lemmas.Bool.{cases_lt, cases_Bool}
use Rattle.jx_lex.specs.inside.Bits.{bit}
use Rattle.jx_block.specs.inside.Planes.{is_stop}
use Rattle.jx_block.specs.inside.Whole.{IsWhole}
use Rattle.jx_block.proofs.Words.{bit-one, lowest_set, only_lowest, low_kept}
use Rattle.jx_block.proofs.scalars.visit.Goals as goal

-- the places before the lowest bit that is left were looked at
before_lowest : (P : ℕ → Type 0) (rest : ℕ) (first : ℕ → Bool) → 0 < rest → rest < 2 ^ 64
    → ((k : ℕ) → k < 64 → first k ≡ true → bit rest k ≡ false → P k)
    → (k : ℕ) → k < 64 → first k ≡ true → ((j : ℕ) → j ≤ k → bit (1 * 2 ^ trailing_zeros w64 rest % 2 ^ 64) j ≡ false) → P k
before_lowest P rest first some fits whole k lt set none = by_order (cases_lt k (trailing_zeros w64 rest))
  where
    by_order : (k < trailing_zeros w64 rest) ⊎ (trailing_zeros w64 rest ≤ k) → P k
    by_order (inl below) = whole k lt set ((lowest_set rest some fits).2 k below)
    by_order (inr above) =
        let t = trailing_zeros w64 rest in
        let clash : true ≡ false = sym (bit-one t (lowest_set rest some fits).0) ∙ none t above in
        cc

-- with the lowest bit looked at, it is left out
one_more : (P : ℕ → Type 0) (rest : ℕ) (first : ℕ → Bool) → 0 < rest → rest < 2 ^ 64 → P (trailing_zeros w64 rest)
    → ((k : ℕ) → k < 64 → first k ≡ true → bit rest k ≡ false → P k)
    → (k : ℕ) → k < 64 → first k ≡ true → bit (bit_and rest (rest - 1)) k ≡ false → P k
one_more P rest first some fits here whole k lt set cleared = by_bit (cases_Bool (bit rest k))
  where
    by_bit : (bit rest k ≡ true) ⊎ (bit rest k ≡ false) → P k
    by_bit (inr none) = whole k lt set none
    by_bit (inl more) =
        let low = lowest_set rest some fits in
        let e : suc (rest - 1) ≡ rest = omega arith in
        subst P (sym (only_lowest rest (rest - 1) (trailing_zeros w64 rest) k e low.1 low.2 more cleared)) here

pub is_whole-requires-clause-begun : goal.is_whole-requires-clause-begun
is_whole-requires-clause-begun c =
    let low = lowest_set c.loop-rest.rest (omega arith) (omega arith) in
    c.requires.begun (trailing_zeros w64 c.loop-rest.rest) low.0 (c.loop-rest.invariant.among (trailing_zeros w64 c.loop-rest.rest) low.1)

pub returns-then-not-is_whole : goal.returns-then-not-is_whole
returns-then-not-is_whole c = record {
  whole = before_lowest (λ k. IsWhole c.args.text.now c.args.at (bit c.args.scalars) (λ j. is_stop (get_or c.args.text.now (c.args.at + j) 0)) k) c.loop-rest.rest (bit c.args.firsts) (omega arith) (omega arith) c.loop-rest.invariant.whole;
}

pub loop-rest-preserved : goal.loop-rest-preserved
loop-rest-preserved c = record {
  among = λ k set. c.loop-rest.invariant.among k (low_kept c.loop-rest.rest (c.loop-rest.rest - 1) k set);
  whole = one_more (λ k. IsWhole c.args.text.now c.args.at (bit c.args.scalars) (λ j. is_stop (get_or c.args.text.now (c.args.at + j) 0)) k) c.loop-rest.rest (bit c.args.firsts) (omega arith) (omega arith) (c.if-not-is_whole.ensures refl) c.loop-rest.invariant.whole;
}

use Rattle.std.proofs.Common.{◌≡◌, ◌⊎◌, inl, inr, ◌<◌, ◌+◌, ◌-◌, ◌^◌, ℕ, Bool, true, false, not, map, length, get_or, refl, ◌∙◌, ap, sym, arith, bit_and, bit_or}
use Rattle.std.specs.Prelude.{◌==◌, ◌&&◌, ◌||◌, ◌≤◌, List}
use Rattle.std.specs.Simd.Lanes.{mask_l, chunk}
use Rattle.std.proofs.lemmas.Bool.{cases_Bool}
use Rattle.std.proofs.lemmas.Bool.Decides.{nat_tests}
use Rattle.std.proofs.lemmas.Nat.{and_le_l, or_lt}
use Rattle.jx_lex.specs.inside.Bits.{bit}
use Rattle.jx_lex.proofs.Bits.{bit-and, bit-or, bit-none}
use Rattle.jx_block.specs.Kinds.{Among, begins_scalar}
use Rattle.jx_block.proofs.Words.{left_none}
use Rattle.jx_block.proofs.WordsTell.{block_byte, test_at, but}
use Rattle.jx_block.proofs.kinds.kinds_of.Goals as goal

among : (text : List ℕ) (at starts w : ℕ) (p : ℕ → Bool) → at + 64 ≤ length text → w ≡ mask_l (map p (chunk at 64 text)) → Among text at starts (bit_and starts w) p
unfolding bit
among text at starts w p fits is = λ k lt. bit-and starts w k ∙ ap (λ t. bit starts k && t) (test_at p text at w fits is k lt)

and_fits : (s w : ℕ) → s < 2 ^ 64 → bit_and s w < 2 ^ 64
and_fits s w fits = let le = and_le_l s w in omega (arith, le)

-- a byte that begins no scalar
abbrev begins_other : ℕ → Bool
begins_other b = ((((((b == 0x2c) || (b == 0x3a)) || (b == 0x22)) || (b == 0x5b)) || (b == 0x5d)) || (b == 0x7b)) || (b == 0x7d)

scalar_no_other : (b : ℕ) → begins_scalar b ≡ true → begins_other b ≡ false
scalar_no_other b h = grind (arith, nat_tests)

-- seven tests at a place, one by one or together
together : (s a b c d e f g : Bool) → (((((((s && a) || (s && b)) || (s && c)) || (s && d)) || (s && e)) || (s && f)) || (s && g)) ≡ (s && ((((((a || b) || c) || d) || e) || f) || g))
together true a b c d e f g = refl
together false a b c d e f g = refl

-- where no other token begins, a scalar does
scalar_there : (s o x : Bool) → (x ≡ true → o ≡ false) → ((s && not (s && o)) && x) ≡ (s && x)
scalar_there false o x apart = refl
scalar_there true true true apart = let never = apart refl in cc
scalar_there true true false apart = refl
scalar_there true false x apart = refl

-- scalars among the others
with_scalars : (a x b d e f : Bool) → ((((a || b) || d) || e) || f) ≡ true → (((((a || x) || b) || d) || e) || f) ≡ true
with_scalars true x b d e f h = h
with_scalars false false b d e f h = h
with_scalars false true b d e f h = all b d e f
  where
    all : (b d e f : Bool) → ((((true || b) || d) || e) || f) ≡ true
    all b d e f = refl

put_in : (a x b d e f : Bool) → x ≡ true → (((((a || x) || b) || d) || e) || f) ≡ true
put_in true x b d e f h = refl
put_in false true b d e f h = refl
put_in false false b d e f h = absurd cc

-- the words of kinds, all together
module _ (s a b c d e f g : ℕ) (fits : s < 2 ^ 64) where
  abbrev any : ℕ
  any = bit_or (bit_or (bit_or (bit_or (bit_or (bit_or (bit_and s a) (bit_and s b)) (bit_and s c)) (bit_and s d)) (bit_and s e)) (bit_and s f)) (bit_and s g)

  or_fits : (v w : ℕ) → v < 2 ^ 64 → bit_or v (bit_and s w) < 2 ^ 64
  or_fits v w low = or_lt 64 v (bit_and s w) low (and_fits s w fits)

  any_fits : any < 2 ^ 64
  any_fits = or_fits _ g (or_fits _ f (or_fits _ e (or_fits _ d (or_fits _ c (or_fits _ b (and_fits s a fits))))))

  any_at : (k : ℕ) → bit any k ≡ ((((((bit (bit_and s a) k || bit (bit_and s b) k) || bit (bit_and s c) k) || bit (bit_and s d) k) || bit (bit_and s e) k) || bit (bit_and s f) k) || bit (bit_and s g) k)
  any_at k = bit-or _ _ k ∙ (λ i. (bit-or _ _ k ∙ (λ i. (bit-or _ _ k ∙ (λ i. (bit-or _ _ k ∙ (λ i. (bit-or _ _ k ∙ (λ i. bit-or (bit_and s a) (bit_and s b) k i || bit (bit_and s c) k)) i || bit (bit_and s d) k)) i || bit (bit_and s e) k)) i || bit (bit_and s f) k)) i || bit (bit_and s g) k)

  others_at : (k : ℕ) → k < 64 → bit (bit_and s (2 ^ 64 - 1 - any)) k ≡ (bit s k && not (bit any k))
  others_at k lt = but s any k any_fits lt

  -- each place has a token
  all_there : (x k : ℕ) → x < 2 ^ 64 → k < 64 → bit (bit_and (bit_and s (2 ^ 64 - 1 - any)) (2 ^ 64 - 1 - x)) k ≡ false → bit s k ≡ true
      → (((((((bit (bit_and s a) k || bit (bit_and s b) k) || bit (bit_and s c) k) || bit x k) || bit (bit_and s d) k) || bit (bit_and s e) k) || bit (bit_and s f) k) || bit (bit_and s g) k) ≡ true
  all_there x k low lt none set = by_bit (cases_Bool (bit any k))
    where
      by_bit : (bit any k ≡ true) ⊎ (bit any k ≡ false)
          → (((((((bit (bit_and s a) k || bit (bit_and s b) k) || bit (bit_and s c) k) || bit x k) || bit (bit_and s d) k) || bit (bit_and s e) k) || bit (bit_and s f) k) || bit (bit_and s g) k) ≡ true
      by_bit (inl some) = with_scalars _ (bit x k) _ _ _ _ (sym (any_at k) ∙ some)
      by_bit (inr other) =
          put_in _ (bit x k) _ _ _ _
          (left_none (bit (bit_and s (2 ^ 64 - 1 - any)) k) (bit x k) (sym (but (bit_and s (2 ^ 64 - 1 - any)) x k low lt) ∙ none) (others_at k lt ∙ (λ i. set i && not (other i))))

pub returns : goal.returns
unfolding bit
returns c = record {
  kinds = λ t at fits same.
      let s = c.args.starts in
      let small : s < 2 ^ 64 = c.ranges.starts.fits in
      let word : (w : ℕ) (p : ℕ → Bool) → w ≡ mask_l (map p c.args.block) → Among t at s (bit_and s w) p = λ w p is.
      among t at s w p fits (is ∙ ap (λ v. mask_l (map p v)) same) in
      let commas = word c.equal.result (λ b. b == 0x2c) c.equal.ensures in
      let colons = word c.equal-2.result (λ b. b == 0x3a) c.equal-2.ensures in
      let strings = word c.equal-3.result (λ b. b == 0x22) c.equal-3.ensures in
      let open_arrays = word c.equal-4.result (λ b. b == 0x5b) c.equal-4.ensures in
      let close_arrays = word c.equal-5.result (λ b. b == 0x5d) c.equal-5.ensures in
      let open_objects = word c.equal-6.result (λ b. b == 0x7b) c.equal-6.ensures in
      let close_objects = word c.equal-7.result (λ b. b == 0x7d) c.equal-7.ensures in
      record {
        commas = commas;
        colons = colons;
        strings = strings;
        scalars = λ k lt.
            let b = get_or t (at + k) 0 in
            c.scalars_among-scalars.ensures k lt
            ∙ (λ i.
            (others_at s c.equal.result c.equal-2.result c.equal-3.result c.equal-4.result c.equal-5.result c.equal-6.result c.equal-7.result small k lt
            ∙ ap (λ o. bit s k && not o)
            (any_at s c.equal.result c.equal-2.result c.equal-3.result c.equal-4.result c.equal-5.result c.equal-6.result c.equal-7.result small k
            ∙ (λ i. (((((commas k lt i || colons k lt i) || strings k lt i) || open_arrays k lt i) || close_arrays k lt i) || open_objects k lt i) || close_objects k lt i)
            ∙ together (bit s k) (b == 0x2c) (b == 0x3a) (b == 0x22) (b == 0x5b) (b == 0x5d) (b == 0x7b) (b == 0x7d))) i
            && begins_scalar ((ap (λ v. get_or v k 0) same ∙ block_byte t at k lt) i))
            ∙ scalar_there (bit s k) (begins_other b) (begins_scalar b) (scalar_no_other b);
        open_arrays = open_arrays;
        close_arrays = close_arrays;
        open_objects = open_objects;
        close_objects = close_objects;
        all = λ k lt set.
            all_there s c.equal.result c.equal-2.result c.equal-3.result c.equal-4.result c.equal-5.result c.equal-6.result c.equal-7.result small c.scalars_among-scalars.result k
            c.scalars_among-scalars.type_inv lt (ap (λ n. bit n k) c.if-others-scalars-ne0.false ∙ bit-none k) set;
      };
}

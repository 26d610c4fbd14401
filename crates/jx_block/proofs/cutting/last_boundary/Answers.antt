use Rattle.std.proofs.Common.{◌≡◌, ◌<◌, ℕ, true, false, zero, suc, ◌+◌, ◌-◌, ◌%◌, ◌^◌, bit_and, bit_xor, refl, sym, ap, ◌∙◌, ◌⊎◌, inl, inr, arith}
use Rattle.std.proofs.lemmas.Bool.{cases_Bool, not-true}
use Rattle.jx_lex.specs.inside.Bits.{bit}
use Rattle.jx_lex.proofs.Bits.{bit-and, bit-not, bit-none, highest_set, no_difference_above}
use Rattle.jx_lex.proofs.ClassTable.{and_left, and_right}
use Rattle.jx_block.proofs.cutting.last_boundary.Goals as goal

-- a place that is set among the boundaries
set_both : (inside up r : ℕ) → bit (bit_and (2 ^ 64 - 1 - inside) up) r ≡ true → (bit (2 ^ 64 - 1 - inside) r ≡ true) × (bit up r ≡ true)
set_both inside up r h = let both = sym (bit-and (2 ^ 64 - 1 - inside) up r) ∙ h in (and_left _ _ both, and_right _ _ both)

outside : (inside up r : ℕ) → inside < 2 ^ 64 → r < 64 → bit (bit_and (2 ^ 64 - 1 - inside) up) r ≡ true → bit inside r ≡ false
outside inside up r fits lt h = not-true _ (sym (bit-not inside r fits lt) ∙ (set_both inside up r h).0)

nothing_below : (w m r : ℕ) → m ≡ (w + (2 ^ 64 - 1)) % 2 ^ 64 → w < 2 ^ 64 → bit (bit_xor w m) r ≡ true → (k : ℕ) → k < r → bit w k ≡ false
nothing_below w m r is fits top k lt = by_bit (cases_Bool (bit w k))
  where
    by_bit : (bit w k ≡ true) ⊎ (bit w k ≡ false) → bit w k ≡ false
    by_bit (inr none) = none
    by_bit (inl set) = by_word w refl
      where
        by_word : (n : ℕ) → w ≡ n → bit w k ≡ false
        by_word zero e = ap (λ n. bit n k) e ∙ bit-none k
        by_word (suc n) e = let less : suc m ≡ w = omega arith in let top_is : true ≡ false = sym top ∙ no_difference_above w m k r less lt set in cc

pub returns-clause-boundary : goal.returns-clause-boundary
returns-clause-boundary c some =
    let i = c.ilog2.ensures in
    outside c.args.inside _ c.ilog2.result c.ranges.inside.fits i.bound (highest_set _ c.ilog2.result i.power_le i.next_power_gt)

pub returns-clause-right : goal.returns-clause-right
returns-clause-right c =
    let i = c.ilog2.ensures in
    nothing_below c.args.wrong _ c.ilog2.result refl c.ranges.wrong.fits (set_both c.args.inside _ c.ilog2.result (highest_set _ c.ilog2.result i.power_le i.next_power_gt)).1

use Rattle.std.proofs.Common.{◌≡◌, ◌+◌, ◌-◌, ◌/◌, ◌^◌, ◌<◌, ℕ, true, false, ap, sym, subst, ◌∙◌, arith, w64}
use Rattle.std.specs.Prelude.{◌==◌}
use Rattle.std.specs.Int.{bit_at, trailing_ones}
use Rattle.std.proofs.lemmas.Nat.{shr_le}
use Rattle.std.proofs.lemmas.Nat.Bits.{bit_at-trailing_ones}
use Rattle.jx_lex.specs.inside.Bits.{bit}
use Rattle.jx_lex.proofs.Bits.{bit-shr}
use Rattle.jx_block.proofs.scalars.run_end.Goals as goal

-- a word that is not all ones begins with a run of ones, and a zero stands behind it
ones_first : (w t : ℕ) → w < 2 ^ 64 → (w ≡ 2 ^ 64 - 1 → ⊥) → t ≡ trailing_ones w64 w → (bit w t ≡ false) × ((j : ℕ) → j < t → bit w j ≡ true)
unfolding bit
ones_first w t fits some is =
    let h = bit_at-trailing_ones w64 w (omega (arith, some)) in
    (ap (λ n. bit_at w n == 1) is ∙ ap (λ n. n == 1) h.1, λ j lt. ap (λ n. n == 1) (h.2 j (subst (λ n. j < n) is lt)))

pub returns-clause-run : goal.returns-clause-run
returns-clause-run c j lt low below =
    let w = c.args.word in
    let k = c.args.k in
    let e : k + (j - k) ≡ j = omega arith in
    ap (bit w) (sym e) ∙ sym (bit-shr w k (j - k)) ∙ (ones_first (w / 2 ^ k) c.trailing_ones.result (omega (arith, shr_le w k)) c.if-from.false c.trailing_ones.ensures).1 (j - k) (omega arith)

pub returns-clause-over : goal.returns-clause-over
returns-clause-over c lt =
    let w = c.args.word in
    let k = c.args.k in
    sym (bit-shr w k c.trailing_ones.result) ∙ (ones_first (w / 2 ^ k) c.trailing_ones.result (omega (arith, shr_le w k)) c.if-from.false c.trailing_ones.ensures).0

use Rattle.std.proofs.Common.{◌≡◌, ◌-◌, ◌/◌, ◌^◌, ap, ◌∙◌, arith}
use Rattle.std.specs.Prelude.{◌&&◌}
use Rattle.std.proofs.lemmas.Nat.{and_le_r, pow_pos}
use Rattle.std.proofs.lemmas.Nat.Bits.{ones_shr}
use Rattle.jx_lex.specs.inside.Bits.{bit}
use Rattle.jx_lex.proofs.Bits.{bit-and}
use Rattle.jx_block.proofs.Words.{bit-low, and_true}
use Rattle.jx_block.proofs.cutting.first_bits.Goals as goal

pub returns-clause-kept : goal.returns-clause-kept
returns-clause-kept c k lt =
    let w = c.args.word in
    let n = c.args.n in
    bit-and w ((2 ^ 64 - 1) / 2 ^ (64 - n)) k ∙ ap (λ b. bit w k && b) (bit-low n k (omega arith) lt) ∙ and_true (bit w k)

pub returns-clause-few : goal.returns-clause-few
returns-clause-few c =
    let n = c.args.n in
    let e : 64 - (64 - n) ≡ n = omega arith in
    let low : (2 ^ 64 - 1) / 2 ^ (64 - n) ≡ 2 ^ n - 1 = ones_shr 64 (64 - n) (omega arith) ∙ ap (λ m. 2 ^ m - 1) e in
    omega (arith, low, pow_pos n, and_le_r c.args.word ((2 ^ 64 - 1) / 2 ^ (64 - n)))

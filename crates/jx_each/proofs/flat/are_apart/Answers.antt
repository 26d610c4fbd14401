use Rattle.std.proofs.Common.{ℕ, ◌*◌, ◌%◌, ◌^◌, Bool, not, bit_and, bit_or, sym, ap, ◌∙◌}
use Rattle.std.specs.Prelude.{◌&&◌}
use Rattle.std.proofs.lemmas.Bool.{eqb-true}
use Rattle.jx_lex.specs.inside.Bits.{bit}
use Rattle.jx_lex.proofs.Bits.{bit-and, bit-none}
use Rattle.jx_each.proofs.Words.{before}
use Rattle.jx_each.proofs.flat.are_apart.Goals as goal

pub returns : goal.returns
returns c = λ is k lt.
    let s = c.args.commas in
    let w : ℕ = bit_or (s * 2 % 2 ^ 64) c.lowest.result in
    ap (λ (m : Bool). bit s k && m) (sym (before (not c.args.begun) s c.lowest.result k lt c.lowest.ensures.first c.lowest.ensures.others))
    ∙ sym (bit-and s w k)
    ∙ ap (λ (n : ℕ). bit n k) (eqb-true (bit_and s w) 0 is)
    ∙ bit-none k

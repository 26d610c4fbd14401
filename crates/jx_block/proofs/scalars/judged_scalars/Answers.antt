use Rattle.std.proofs.Common.{◌≡◌, ◌⊎◌, inl, inr, ◌∙◌, ◌<◌, ◌^◌, ap, true, false, not, arith, bit_and, get_or}
use Rattle.std.specs.Prelude.{◌&&◌, ◌+◌}
use Rattle.std.proofs.lemmas.Bool.{cases_Bool}
use Rattle.std.proofs.lemmas.Nat.{and_le_l}
use Rattle.jx_lex.specs.inside.Bits.{bit}
use Rattle.jx_lex.proofs.Bits.{bit-none}
use Rattle.jx_block.specs.inside.Planes.{is_stop}
use Rattle.jx_block.specs.inside.Whole.{IsWhole}
use Rattle.jx_block.proofs.Words.{low_kept}
use Rattle.jx_block.proofs.WordsTell.{but, neither}
use Rattle.jx_block.proofs.scalars.judged_scalars.Goals as goal

pub visit-visited-requires-clause-begun : goal.visit-visited-requires-clause-begun
visit-visited-requires-clause-begun c k lt set = c.requires.begun k lt (low_kept c.args.firsts _ k set)

pub returns-then-numbers-eq0 : goal.returns-then-numbers-eq0
returns-then-numbers-eq0 c = record {
  whole = λ k n le few over set none.
      let words = bit_and c.args.firsts c.number_firsts.result in
      let fits : words < 2 ^ 64 = let least = and_le_l c.args.firsts c.number_firsts.result in omega (arith, least) in
      c.visit-visited.ensures.whole k (omega arith)
      (but c.args.firsts words k fits (omega arith) ∙ (λ i. set i && not ((ap (λ w. bit w k) c.if-numbers-eq0.true ∙ bit-none k) i)))
      (λ j low. none j (omega arith));
}

pub returns : goal.returns
returns c = record {
  whole = λ k n le few over set none.
      let words = bit_and c.args.firsts c.number_firsts.result in
      let fits : words < 2 ^ 64 = let least = and_le_l c.args.firsts c.number_firsts.result in omega (arith, least) in
      let by_bit : (bit words k ≡ true) ⊎ (bit words k ≡ false) → IsWhole c.args.text.now c.args.at (bit c.args.scalars) (λ j. is_stop (get_or c.args.text.now (c.args.at + j) 0)) k = λ b. elim b [
        | inl is ↦ c.wrong_number.ensures.whole k n le few over is (λ j low. (neither c.visit-visited.result.wrong c.wrong_number.result j (none j low)).1)
        | inr is ↦
            c.visit-visited.ensures.whole k (omega arith) (but c.args.firsts words k fits (omega arith) ∙ (λ i. set i && not (is i)))
            (λ j low. (neither c.visit-visited.result.wrong c.wrong_number.result j (none j (omega arith))).0)
      ] in
      by_bit (cases_Bool (bit words k));
}

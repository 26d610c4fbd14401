use Rattle.std.proofs.Common.{rules, ◌≡◌, ◌∙◌, ◌+◌, ap, sym, arith, false, ℕ, ◌<◌, ◌*◌, ◌%◌, ◌^◌}
use Rattle.jx_lex.specs.inside.Bits.{bit}
use Rattle.jx_lex.proofs.Bits.{bit-none, bit-up}
use Rattle.jx_reduce.proofs.stack.next_words.next_behind.Goals as goal

none_below : (w k : ℕ) → k < 63 → w * 2 % 2 ^ 64 ≡ 0 → bit w k ≡ false
none_below w k lt none = sym (bit-up w 1 k (omega arith)) ∙ ap (λ n. bit n (k + 1)) none ∙ bit-none (k + 1)

pub returns : goal.returns
returns c =
    let n = c.words_of-next.result in
    record {
      leads = record {
        value = bit n.value;
        name = bit n.name;
        first = bit n.first;
        turns = λ k lt. c.wrong.ensures k lt (none_below c.wrong.result k lt c.if-wrong-ne0.false);
        begun = sym c.expect_before.ensures ∙ search rules;
        ended = sym c.expect_before-2.ensures;
      };
    }

use Rattle.std.proofs.Common.{◌≡◌, ◌∙◌, ◌<◌, ◌≤◌, ◌-◌, ◌+◌, ◌^◌, ℕ, Bool, true, refl, ap, sym, subst, arith, w64, bit_and}
use Rattle.std.specs.Int.{trailing_zeros}
use Rattle.std.proofs.lemmas.Nat.{and_le_l}
use Rattle.jx_lex.specs.Counts.{Levels, seen_there}
use Rattle.jx_lex.specs.inside.Bits.{bit}
use Rattle.jx_lex.proofs.Bits.{bit-none, bit-or}
use Rattle.jx_block.specs.inside.Levels.{HasLowest, levels_to, moved, ones}
use Rattle.jx_block.proofs.BitCounts.{no_bits}
use Rattle.jx_block.proofs.LevelBits.{levels-along, levels-over, lowest-along, ones-full, ones-rises}
use Rattle.jx_block.proofs.Words.{bit-low, cleared, lowest_set, none_left, not_before}
use Rattle.jx_block.proofs.levels.level_counts.Goals as goal

pub loop-left-init : goal.loop-left-init
loop-left-init c = record {
  low = omega arith;
  none = λ j lt. absurd (omega arith);
  others = λ j le lt. bit-or c.args.opening c.args.closing j;
  has = record {
    lowest_is = refl;
    above_is = refl;
    commas_are = no_bits (bit_and c.args.commas (2 ^ 64 - 1));
    values_are = no_bits (bit_and c.args.values (2 ^ 64 - 1));
  };
  behind = λ j le lt. bit-low 64 j (omega arith) lt;
  few_levels = omega arith;
  few_above = omega arith;
}

pub loop-left-preserved : goal.loop-left-preserved
unfolding bit
loop-left-preserved c =
    let left = c.loop-left.left in
    let v = c.loop-left.invariant in
    let k = trailing_zeros w64 left in
    let low = lowest_set left (omega arith) (omega arith) in
    let lt : k < 64 = low.0 in
    let cl = cleared left (omega arith) (omega arith) in
    let from = c.loop-left.from in
    let le : from ≤ k = not_before left from k v.none low.1 in
    let s = c.loop-left.so_far in
    let m = c.args.commas in
    let w = c.args.values in
    let behind = c.behind_bracket-so_far.ensures in
    let bl = behind.lowest in
    let ba = behind.above in
    let fl = v.few_levels in
    let fa = v.few_above in
    let e : from + (k + 1 - from) ≡ k + 1 = omega (arith, le) in
    let x : Levels = levels_to c.args.opening c.args.closing m w from in
    let seen : HasLowest m w (k + 1) s.lowest s.above s.bytes (seen_there (ones m (k + 1) - ones m from) (ones w (k + 1) - ones w from) x) =
    subst (λ (n : ℕ). HasLowest m w n s.lowest s.above s.bytes (seen_there (ones m n - ones m from) (ones w n - ones w from) x)) e
    (lowest-along m w from (k + 1 - from) s.lowest s.above s.bytes x (omega (arith, le, lt)) v.behind v.has) in
    let over : moved c.is_bit.result true (seen_there (ones m (k + 1) - ones m from) (ones w (k + 1) - ones w from) x) ≡ levels_to c.args.opening c.args.closing m w (k + 1) =
    ap (λ (b : Bool). moved b true (seen_there (ones m (k + 1) - ones m from) (ones w (k + 1) - ones w from) x)) c.is_bit.ensures
    ∙ sym (levels-over c.args.opening c.args.closing m w from k le (λ j a b. sym (v.others j a (omega (arith, lt, b))) ∙ low.2 j b) (sym (v.others k le lt) ∙ low.1)) in
    record {
      low = omega (arith, lt);
      none = none_left left k cl;
      others = λ j more high. cl.others j (omega (arith, more)) ∙ v.others j (omega (arith, more, le)) high;
      has =
          subst (HasLowest m w (k + 1) c.behind_bracket-so_far.result.lowest c.behind_bracket-so_far.result.above c.behind_bracket-so_far.result.bytes) over
          (behind.is m w (seen_there (ones m (k + 1) - ones m from) (ones w (k + 1) - ones w from) x) seen);
      behind = λ j more high. behind.behind j (omega (arith, more)) high;
      few_levels = omega (arith, fl, bl, le);
      few_above = omega (arith, fa, ba, le);
    }

pub returns : goal.returns
unfolding bit
returns c =
    let v = c.loop-left.invariant in
    let from = c.loop-left.from in
    let low = v.low in
    let s = c.loop-left.so_far in
    let m = c.args.commas in
    let w = c.args.values in
    let e : from + (64 - from) ≡ 64 = omega (arith, low) in
    let x : Levels = levels_to c.args.opening c.args.closing m w from in
    let seen : HasLowest m w 64 s.lowest s.above s.bytes (seen_there (ones m 64 - ones m from) (ones w 64 - ones w from) x) =
    subst (λ (n : ℕ). HasLowest m w n s.lowest s.above s.bytes (seen_there (ones m n - ones m from) (ones w n - ones w from) x)) e
    (lowest-along m w from (64 - from) s.lowest s.above s.bytes x (omega (arith, low)) v.behind v.has) in
    let mr = ones-rises m from 64 low in
    let wr = ones-rises w from 64 low in
    let mt = ap (ones m) e in
    let wt = ap (ones w) e in
    let mc = ones-full (bit_and m s.bytes) (omega (arith, and_le_l m s.bytes)) ∙ seen.commas_are in
    let wc = ones-full (bit_and w s.bytes) (omega (arith, and_le_l w s.bytes)) ∙ seen.values_are in
    let li = seen.lowest_is in
    let ai = seen.above_is in
    (λ i. record { lowest = li i; above = ai i; commas = mc i; values = wc i })
    ∙ sym
    (levels-along c.args.opening c.args.closing m w from (64 - from) (ones m 64 - ones m from) (ones w 64 - ones w from)
    (λ j a b. sym (v.others j a (omega (arith, low, b))) ∙ ap (λ w. bit w j) c.loop-left-test.false ∙ bit-none j) (omega (arith, mr, mt)) (omega (arith, wr, wt)))
    ∙ ap (levels_to c.args.opening c.args.closing m w) e

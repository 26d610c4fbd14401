use Rattle.std.proofs.Common.{◌≡◌, ◌-◌, ℕ, arith, length, suc, subst}
use Rattle.jx_serve.specs.inside.Sound.{AreRanges}
use Rattle.jx_serve.proofs.Ranges.{outer_range}
use Rattle.jx_serve.proofs.selection_words.begin_parents.Goals as goal

pub loop-number-init : goal.loop-number-init
loop-number-init c = λ before o.
    let one : 1 ≡ suc (length c.args.outer.now - length c.args.outer.now) = omega arith in
    subst (λ (n : ℕ). AreRanges n before c.args.out.now.items) one o

pub loop-number-preserved : goal.loop-number-preserved
loop-number-preserved c = λ before o.
    let long : ℕ = length c.args.outer.now in
    let number : ℕ = c.loop-number.number in
    let more : suc (suc (long - number)) ≡ suc (long - (number - 1)) = omega (arith, c.loop-number-test.true, c.loop-number.auto.number) in
    subst (λ (n : ℕ). AreRanges n before c.begin_extent.new.out.items) more
    (outer_range (suc (long - number)) before c.loop-number.out.items c.extend_from_slice.new.self.items c.begin_extent.new.out.items _ (c.loop-number.invariant before o) c.in_ok-extend_from_slice.ensures.items
    c.in_ok-begin_extent.ensures.words c.in_ok-begin_extent.ensures.value)

pub returns : goal.returns
returns c = λ before o.
    let done : c.loop-number.number ≡ 0 = omega (arith, c.loop-number-test.false) in
    let all : suc (length c.args.outer.now - c.loop-number.number) ≡ suc (length c.args.outer.now) = omega (arith, done) in
    subst (λ (n : ℕ). AreRanges n before c.loop-number.out.items) all (c.loop-number.invariant before o)

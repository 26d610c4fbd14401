use Rattle.std.proofs.Common.{◌≡◌, ◌∙◌, subst, sym, ap, true, false, arith}
use Rattle.jx_index.specs.Pointers.{IsPointer}
use Rattle.jx_wire.specs.Requests.{text_in, no_more, this_one, another, encoding_pointer}
use Rattle.jx_wire.specs.Values.{value_at}
use Rattle.jx_wire.proofs.PlainPointers.{encoding_is}
use Rattle.jx_wire.proofs.Requests.{none_is_no}
use Rattle.jx_wire.proofs.parameters.counts_bytes.Goals as goal

pub loop-number-init : goal.loop-number-init
loop-number-init c = λ tree is utf8 h. h

pub returns-in_default : goal.returns-in_default
returns-in_default c = λ tree is.
    let n = c.loop-number.number-counter in
    let same : c.as_str.result.now ≡ encoding_pointer n = c.as_str.ensures.value ∙ c.in_ok-pointer.ensures.ok in
    c.loop-number.invariant tree is false (no_more (sym (ap (value_at c.args.message.now tree) same) ∙ c.in_default.ensures.at (subst IsPointer (sym same) (encoding_is n (omega (arith, c.loop-number-test.true)))) tree is))

pub returns-then-branch : goal.returns-then-branch
returns-then-branch c = λ tree is.
    let n = c.loop-number.number-counter in
    let same : c.as_str.result.now ≡ encoding_pointer n = c.as_str.ensures.value ∙ c.in_ok-pointer.ensures.ok in
    let there = sym (ap (value_at c.args.message.now tree) same) ∙ c.in-Some.ensures.at (subst IsPointer (sym same) (encoding_is n (omega (arith, c.loop-number-test.true)))) tree is in
    c.loop-number.invariant tree is true (this_one (ap text_in there ∙ c.in_ok-stands_for.ensures.yes c.in-Some.ensures.spelt c.if-branch.true))

pub loop-number-preserved : goal.loop-number-preserved
loop-number-preserved c = λ tree is utf8 h.
    let n = c.loop-number.number-counter in
    let same : c.as_str.result.now ≡ encoding_pointer n = c.as_str.ensures.value ∙ c.in_ok-pointer.ensures.ok in
    let there = sym (ap (value_at c.args.message.now tree) same) ∙ c.in-Some.ensures.at (subst IsPointer (sym same) (encoding_is n (omega (arith, c.loop-number-test.true)))) tree is in
    c.loop-number.invariant tree is utf8 (another (λ none. none_is_no _ _ none there) (λ e. c.in_ok-stands_for.ensures.no c.in-Some.ensures.spelt c.if-branch.false (sym (ap text_in there) ∙ e)) h)

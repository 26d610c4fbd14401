use Rattle.std.proofs.Common.{Option, Err, refl, sym, ap, subst, codes, ◌++◌}
use Rattle.jx_wire.specs.Requests.{of_all, of_range, IsRange, IsWhole}
use Rattle.jx_wire.specs.Values.{value_at, ValueIn}
use Rattle.jx_wire.specs.declared.call.Change.{Change}
use Rattle.jx_wire.proofs.Requests.{places_of, range_is, whole_of, wrong_was}
use Rattle.jx_wire.proofs.Strings.{value_lost, value_found}
use Rattle.jx_wire.proofs.parameters.change_at.Goals as goal

pub returns-in_err-whole-clause-wrong : goal.returns-in_err-whole-clause-wrong
returns-in_err-whole-clause-wrong c = λ pointer at e tree is change h.
    let whole = whole_of (value_at c.args.message.now tree) pointer change h in
    c.in_err-whole.ensures.wrong c.value_in.ensures.spelt (ap Err (wrong_was c.from_residual.result c.in_err-whole.field-0.0 _ c.from_residual.ensures.1 e))
    whole.0 (subst (λ (o : Option ValueIn). IsWhole o whole.0) (c.value_in.ensures.at refl pointer at tree is) whole.1)

pub returns-then-is_none-clause-ok : goal.returns-then-is_none-clause-ok
returns-then-is_none-clause-ok c = λ pointer at tree is.
    of_all (value_lost c.args.message.now tree (pointer ++ codes "/range") c.member-range.result c.if-is_none.ensures (c.member-range.ensures refl pointer at tree is))
    (subst (λ (o : Option ValueIn). IsWhole o c.in_ok-whole.whole) (sym (c.value_in.ensures.at refl pointer at tree is)) (c.in_ok-whole.ensures.ok c.value_in.ensures.spelt))

pub returns-in_default-clause-wrong : goal.returns-in_default-clause-wrong
returns-in_default-clause-wrong c = λ pointer at e tree is change h.
    let there = c.member-range.ensures refl pointer at in
    let places = places_of (value_at c.args.message.now tree) pointer change h (value_found c.args.message.now tree (pointer ++ codes "/range") c.member-range.result c.if-is_none.ensures (there tree is)) in
    c.in_default.ensures.none pointer there refl tree is places.0 places.1 places.2

pub returns-clause-ok : goal.returns-clause-ok
returns-clause-ok c = λ pointer at tree is.
    let values = value_at c.args.message.now tree in
    let there = c.member-range.ensures refl pointer at in
    of_range (value_found c.args.message.now tree (pointer ++ codes "/range") c.member-range.result c.if-is_none.ensures (there tree is))
    (subst (λ (w : Change). IsRange values pointer w) (sym c.ranged.ensures) (range_is values pointer c.in_ok-whole.whole c.in-Some.start c.in-Some.end
    (subst (λ (o : Option ValueIn). IsWhole o c.in_ok-whole.whole) (sym (c.value_in.ensures.at refl pointer at tree is)) (c.in_ok-whole.ensures.ok c.value_in.ensures.spelt)) (c.in-Some.ensures.some pointer there tree is)))

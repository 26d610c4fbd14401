use Rattle.std.proofs.Common.{◌∙◌, Option, None, Some, refl, sym, subst, codes}
use Rattle.jx_wire.specs.Requests.{IsDepth}
use Rattle.jx_wire.specs.Values.{ValueIn}
use Rattle.jx_wire.proofs.Requests.{depth_is_number, no_depth}
use Rattle.jx_wire.proofs.parameters.depth_of.Goals as goal

pub returns-in-None-clause-ok : goal.returns-in-None-clause-ok
returns-in-None-clause-ok c = λ tree is. subst (λ (o : Option ValueIn). IsDepth o None) (sym (c.in-None.ensures.at refl (codes "/params/initializationOptions") c.requires tree is)) refl

pub returns-in-Some-number-clause-ok : goal.returns-in-Some-number-clause-ok
returns-in-Some-number-clause-ok c = λ tree is.
    subst (λ (o : Option ValueIn). IsDepth o (Some c.in-Some-number.depth)) (sym (c.in-Some.ensures.at refl (codes "/params/initializationOptions") c.requires tree is)) (sym c.in-Some-number.ensures, c.if-depth-le65535.true)

pub returns-in_default-clause-wrong : goal.returns-in_default-clause-wrong
returns-in_default-clause-wrong c = λ tree is depth h.
    let value = c.in-Some.value in
    no_depth value.kind value.bytes.now c.in-Some-number.depth depth (sym c.in-Some-number.ensures) c.if-depth-le65535.false (subst (λ (o : Option ValueIn). IsDepth o depth) (c.in-Some.ensures.at refl (codes "/params/initializationOptions") c.requires tree is) h)

pub returns-in_default-2-clause-wrong : goal.returns-in_default-2-clause-wrong
returns-in_default-2-clause-wrong c = λ tree is depth h.
    let value = c.in-Some.value in
    depth_is_number value.kind value.bytes.now depth (sym c.number.ensures ∙ c.in_default.is)
    (subst (λ (o : Option ValueIn). IsDepth o depth) (c.in-Some.ensures.at refl (codes "/params/initializationOptions") c.requires tree is) h)

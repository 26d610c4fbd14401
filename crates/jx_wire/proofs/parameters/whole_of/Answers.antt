use Rattle.std.proofs.Common.{Option, Err, ap, subst}
use Rattle.jx_wire.specs.Requests.{IsWhole}
use Rattle.jx_wire.specs.Values.{seen}
use Rattle.std.specs.Prelude.{IfSome}
use Rattle.jx_wire.specs.declared.message.Value.{Value}
use Rattle.jx_wire.specs.inside.Spelt.{IsSpelt}
use Rattle.jx_wire.proofs.Requests.{no_whole}
use Rattle.jx_wire.proofs.parameters.whole_of.Goals as goal

pub returns-in-Err-NoString-clause-wrong : goal.returns-in-Err-NoString-clause-wrong
returns-in-Err-NoString-clause-wrong c = λ spelt e change h.
    let value = c.in-Some.value in
    let string = subst (λ (o : Option Value). IfSome o IsSpelt) c.in-Some.is spelt in
    no_whole value.kind value.bytes.now change (c.in-Err-NoString.ensures.no string (ap Err c.in-Err-NoString.field-0-is)) (subst (λ (o : Option Value). IsWhole (seen o) change) c.in-Some.is h)

use Rattle.std.proofs.Common.{◌≡◌, Err, ap, subst, sym}
use Rattle.jx_wire.specs.Requests.{AsksFor}
use Rattle.jx_wire.specs.Values.{Values}
use Rattle.jx_wire.specs.declared.call.Call.TheVariants.{WrongParameters}
use Rattle.jx_wire.specs.declared.method.Method.{Method}
use Rattle.jx_wire.proofs.request.request_call.Goals as goal

of_wrong : (at : Values) (method known : Method) → method ≡ known → AsksFor at known WrongParameters → AsksFor at method WrongParameters
of_wrong at method known e h = subst (λ (m : Method). AsksFor at m WrongParameters) (sym e) h

pub returns-in-Err-Wrong-clause-ok : goal.returns-in-Err-Wrong-clause-ok
returns-in-Err-Wrong-clause-ok c = λ tree is. of_wrong _ _ _ c.in-Hover.is (c.in-Err-Wrong.ensures.wrong (ap Err c.in-Err-Wrong.field-0-is) tree is)

pub returns-in-Err-Wrong-uri_of-clause-ok : goal.returns-in-Err-Wrong-uri_of-clause-ok
returns-in-Err-Wrong-uri_of-clause-ok c = λ tree is. of_wrong _ _ _ c.in-Symbols.is (c.in-Err-Wrong-uri_of.ensures.wrong (ap Err c.in-Err-Wrong-uri_of.field-0-is) tree is)

pub returns-in-Err-Wrong-uri_of-2-clause-ok : goal.returns-in-Err-Wrong-uri_of-2-clause-ok
returns-in-Err-Wrong-uri_of-2-clause-ok c = λ tree is. of_wrong _ _ _ c.in-Folds.is (c.in-Err-Wrong-uri_of-2.ensures.wrong (ap Err c.in-Err-Wrong-uri_of-2.field-0-is) tree is)

pub returns-in-Err-Wrong-selection_of-clause-ok : goal.returns-in-Err-Wrong-selection_of-clause-ok
returns-in-Err-Wrong-selection_of-clause-ok c = λ tree is. of_wrong _ _ _ c.in-Selection.is (c.in-Err-Wrong-selection_of.ensures.wrong (ap Err c.in-Err-Wrong-selection_of.field-0-is) tree is)

use Rattle.std.proofs.Common.{Err, ap, subst}
use Rattle.jx_wire.specs.Requests.{TellsOf}
use Rattle.jx_wire.specs.Values.{value_at}
use Rattle.jx_wire.specs.declared.method.Method.{Method}
use Rattle.jx_wire.proofs.Messages.{closed_document}
use Rattle.jx_wire.proofs.Requests.{wrong_was}
use Rattle.jx_wire.proofs.request.notification_call.Goals as goal

pub returns-in_err-uri-in-Close-clause-wrong : goal.returns-in_err-uri-in-Close-clause-wrong
returns-in_err-uri-in-Close-clause-wrong c = λ e tree is told h.
    let at = value_at c.args.message.now tree in
    let closed = closed_document at told (subst (λ (m : Method). TellsOf at m told) c.in-Close.is h) in
    c.in_err-uri-in-Close.ensures.wrong (ap Err (wrong_was c.from_residual.result c.in_err-uri-in-Close.field-0.0 _ c.from_residual.ensures.1 e)) tree is closed.0 closed.1

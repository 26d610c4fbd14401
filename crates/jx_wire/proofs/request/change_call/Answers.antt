use Rattle.std.proofs.Common.{Err, ap, codes, refl}
use Rattle.jx_wire.specs.Values.{value_at}
use Rattle.jx_wire.proofs.Messages.{changed_document}
use Rattle.jx_wire.proofs.Requests.{wrong_was}
use Rattle.jx_wire.proofs.request.change_call.Goals as goal

pub changes_of-requires : goal.changes_of-requires
changes_of-requires c = c.member.ensures refl (codes "/params") c.requires

pub returns-in_err-document-clause-wrong : goal.returns-in_err-document-clause-wrong
returns-in_err-document-clause-wrong c = λ e tree is told h.
    let document = changed_document (value_at c.args.message.now tree) told h in
    c.in_err-document.ensures.wrong (ap Err (wrong_was c.from_residual.result c.in_err-document.field-0.0 _ c.from_residual.ensures.1 e)) tree is document.0 document.1

use Rattle.std.proofs.Common.{Err, ap, codes, refl}
use Rattle.jx_wire.proofs.Requests.{wrong_was}
use Rattle.jx_wire.proofs.parameters.versioned_of.Goals as goal

pub version_of-requires : goal.version_of-requires
version_of-requires c = c.member.ensures refl (codes "/params") c.requires

pub returns-in_err-uri-clause-wrong : goal.returns-in_err-uri-clause-wrong
returns-in_err-uri-clause-wrong c = λ e tree is document h.
    c.in_err-uri.ensures.wrong (ap Err (wrong_was c.from_residual.result c.in_err-uri.field-0.0 _ c.from_residual.ensures.1 e)) tree is document.uri h.uri

use Rattle.std.proofs.Common.{Err, ap, codes, refl}
use Rattle.jx_wire.proofs.Requests.{wrong_was}
use Rattle.jx_wire.proofs.request.selection_of.Goals as goal

pub positions_of-requires : goal.positions_of-requires
positions_of-requires c = c.member.ensures refl (codes "/params") c.requires

pub returns-in_err-uri-clause-wrong : goal.returns-in_err-uri-clause-wrong
returns-in_err-uri-clause-wrong c = λ e tree is uri places h.
    c.in_err-uri.ensures.wrong (ap Err (wrong_was c.from_residual.result c.in_err-uri.field-0.0 _ c.from_residual.ensures.1 e)) tree is uri h.of

pub returns-clause-ok : goal.returns-clause-ok
returns-clause-ok c = λ tree is. record { of = c.in_ok-uri.ensures.ok tree is; there = c.in_ok-places.ensures.ok tree is }

use Rattle.std.proofs.Common.{Err, refl, ap, codes}
use Rattle.jx_wire.proofs.Requests.{wrong_was}
use Rattle.jx_wire.proofs.request.hover_of.Goals as goal

pub returns-in_err-uri-clause-wrong : goal.returns-in_err-uri-clause-wrong
returns-in_err-uri-clause-wrong c = λ e tree is uri place h.
    c.in_err-uri.ensures.wrong (ap Err (wrong_was c.from_residual.result c.in_err-uri.field-0.0 _ c.from_residual.ensures.1 e)) tree is uri h.of

pub returns-in_default-clause-wrong : goal.returns-in_default-clause-wrong
returns-in_default-clause-wrong c = λ e tree is uri place h.
    c.in_default.ensures.none (codes "/params/position") (c.member.ensures refl (codes "/params") c.requires) refl tree is place h.there

pub returns-clause-ok : goal.returns-clause-ok
returns-clause-ok c = λ tree is. record {
  of = c.in_ok-uri.ensures.ok tree is;
  there = c.in-Some.ensures.some (codes "/params/position") (c.member.ensures refl (codes "/params") c.requires) tree is;
}

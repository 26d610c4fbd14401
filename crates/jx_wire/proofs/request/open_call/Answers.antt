use Rattle.std.proofs.Common.{◌∙◌, Option, Some, Err, refl, sym, ap, subst, codes}
use Rattle.jx_wire.specs.Requests.{IsWhole}
use Rattle.jx_wire.specs.Values.{value_at, ValueIn}
use Rattle.jx_wire.proofs.Messages.{open_parts}
use Rattle.jx_wire.proofs.Requests.{wrong_was}
use Rattle.jx_wire.proofs.request.open_call.Goals as goal

pub content_of-requires : goal.content_of-requires
content_of-requires c = c.member-node.ensures refl (codes "/params") c.requires

pub returns-in_err-document-clause-wrong : goal.returns-in_err-document-clause-wrong
returns-in_err-document-clause-wrong c = λ e tree is told h.
    let parts = open_parts (value_at c.args.message.now tree) told h in
    c.in_err-document.ensures.wrong (ap Err (wrong_was c.from_residual.result c.in_err-document.field-0.0 _ c.from_residual.ensures.1 e)) tree is parts.0 parts.2

pub returns-in_err-text-clause-wrong : goal.returns-in_err-text-clause-wrong
returns-in_err-text-clause-wrong c = λ e tree is told h.
    let parts = open_parts (value_at c.args.message.now tree) told h in
    c.in_err-text.ensures.wrong c.value_in.ensures.spelt (ap Err (wrong_was c.from_residual-in_err-text.result c.in_err-text.field-0.0 _ c.from_residual-in_err-text.ensures.1 e))
    parts.1 (subst (λ (o : Option ValueIn). IsWhole o parts.1) (c.value_in.ensures.at refl (codes "/params/textDocument") (c.member-node.ensures refl (codes "/params") c.requires) tree is) parts.3)

pub returns-clause-ok : goal.returns-clause-ok
returns-clause-ok c = λ tree is.
    let document = c.in_ok-document.ensures.ok tree is in (
      record { uri = record { name = document.uri.name ∙ ap Some (sym c.shrink_to_fit.ensures.items); spelt = document.uri.spelt }; version = document.version },
      c.in_ok-content.ensures tree is,
      subst (λ (o : Option ValueIn). IsWhole o c.in_ok-text.text) (sym (c.value_in.ensures.at refl (codes "/params/textDocument") (c.member-node.ensures refl (codes "/params") c.requires) tree is)) (c.in_ok-text.ensures.ok c.value_in.ensures.spelt),
    )

use Rattle.std.proofs.Common.{◌∙◌, Some, Err, refl, sym, ap, codes}
use Rattle.jx_wire.specs.Requests.{spelling_in, text_in}
use Rattle.jx_wire.specs.Values.{seen}
use Rattle.jx_wire.proofs.Requests.{none_is_no, wrong_was}
use Rattle.jx_wire.proofs.parameters.uri_of.Goals as goal

pub returns-in_err-name-clause-wrong : goal.returns-in_err-name-clause-wrong
returns-in_err-name-clause-wrong c = λ e tree is uri h.
    let none = c.in_err-name.ensures.wrong c.in-Some.ensures.spelt (ap Err (wrong_was c.from_residual.result c.in_err-name.field-0.0 _ c.from_residual.ensures.1 e)) in
    none_is_no _ uri.name.items (ap text_in (c.in-Some.ensures.at refl (codes "/params/textDocument") (c.member-document.ensures refl (codes "/params") c.requires) tree is) ∙ none) h.name

pub returns-clause-ok : goal.returns-clause-ok
returns-clause-ok c = λ tree is.
    let there = c.in-Some.ensures.at refl (codes "/params/textDocument") (c.member-document.ensures refl (codes "/params") c.requires) tree is in
    record { name = ap text_in there ∙ c.in_ok-name.ensures.ok c.in-Some.ensures.spelt; spelt = ap spelling_in there ∙ ap Some (sym c.in_ok-spelt.ensures.items) }

pub returns-in_default-clause-wrong : goal.returns-in_default-clause-wrong
returns-in_default-clause-wrong c = λ e tree is uri h.
    none_is_no _ uri.name.items (ap text_in (c.value_in.ensures.at refl (codes "/params/textDocument") (c.member-document.ensures refl (codes "/params") c.requires) tree is ∙ ap seen c.in_default.is)) h.name

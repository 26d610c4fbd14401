use Rattle.std.proofs.Common.{◌∙◌, Some, refl, sym, ap, codes}
use Rattle.jx_wire.proofs.Requests.{no_number}
use Rattle.jx_wire.proofs.parameters.version_of.Goals as goal
use Rattle.jx_wire.specs.Requests.{number_spelt}
use Rattle.jx_wire.specs.Values.{number_spelt_by}

pub returns-in-None : goal.returns-in-None
returns-in-None c = λ tree is. ap number_spelt (c.in-None.ensures.at refl (codes "/params/textDocument") c.requires tree is)

pub returns-in_ok-version-in-Number : goal.returns-in_ok-version-in-Number
returns-in_ok-version-in-Number c = λ tree is.
    ap number_spelt (c.in-Some.ensures.at refl (codes "/params/textDocument") c.requires tree is) ∙ ap (λ k. number_spelt_by k c.in-Some.value.bytes.now) c.in-Number.is ∙ ap Some (sym c.in_ok-version-in-Number.ensures.items)

pub returns-in_default : goal.returns-in_default
returns-in_default c = λ tree is. ap number_spelt (c.in-Some.ensures.at refl (codes "/params/textDocument") c.requires tree is) ∙ no_number c.in-Some.value.kind c.in-Some.value.bytes.now c.in_default.not-Number

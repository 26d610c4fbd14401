use Rattle.std.proofs.Common.{◌++◌, ◌∷◌, [], ap, ◌∙◌}
use Rattle.jx_wire.specs.inside.Escapes.{all_spelt}
use Rattle.jx_wire.proofs.SpeltText.{string_of}
use Rattle.jx_wire.proofs.quoting.quoted.Goals as goal

pub returns : goal.returns
returns c =
    λ units t. string_of c.args.text.now units c.extend_from_slice.new.self.items
    (c.in_ok-extend_from_slice.ensures.items ∙ ap (λ x. x ++ (0x22 ∷ [])) (c.in_ok-add_all.ensures ∙ ap (λ x. x ++ all_spelt c.args.text.now) c.in_ok-out.ensures.items)) t

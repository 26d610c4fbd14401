use Rattle.std.proofs.Common.{◌∙◌, refl, codes}
use Rattle.jx_wire.proofs.Requests.{none_is_no}
use Rattle.jx_wire.proofs.parameters.offer_of.Goals as goal

pub depth_of-requires : goal.depth_of-requires
depth_of-requires c = c.member-options.ensures refl (codes "/params") c.requires

pub returns-in_default-clause-wrong : goal.returns-in_default-clause-wrong
returns-in_default-clause-wrong c = λ e tree is offer h.
    none_is_no _ offer.ignore_bom (c.is_on.ensures refl (codes "/params/initializationOptions") (c.member-options.ensures refl (codes "/params") c.requires) tree is ∙ c.in_default.is) h.ignore_bom

pub returns-in_default-is_on-clause-wrong : goal.returns-in_default-is_on-clause-wrong
returns-in_default-is_on-clause-wrong c = λ e tree is offer h.
    none_is_no _ offer.unique_names (c.is_on-2.ensures refl (codes "/params/initializationOptions") (c.member-options.ensures refl (codes "/params") c.requires) tree is ∙ c.in_default-is_on.is) h.unique_names

pub returns-clause-ok : goal.returns-clause-ok
returns-clause-ok c = λ tree is.
    let options = c.member-options.ensures refl (codes "/params") c.requires in
    record {
      utf8 = c.in_ok-utf8.ensures tree is;
      depth = c.in_ok-depth.ensures.ok tree is;
      ignore_bom = c.in-Some.ensures refl (codes "/params/initializationOptions") options tree is;
      unique_names = c.in-Some-is_on.ensures refl (codes "/params/initializationOptions") options tree is;
      nested = c.shows_nested-nested.ensures tree is;
    }

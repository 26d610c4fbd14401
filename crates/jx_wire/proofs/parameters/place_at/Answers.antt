use Rattle.std.proofs.Common.{refl, ◌∙◌}
use Rattle.jx_wire.proofs.Requests.{none_is_no}
use Rattle.jx_wire.proofs.parameters.place_at.Goals as goal

pub returns-in_err-character-clause-none : goal.returns-in_err-character-clause-none
returns-in_err-character-clause-none c = λ pointer at none tree is place h.
    none_is_no _ place.character (c.number_in-2.ensures refl pointer at tree is ∙ c.in_err-character.was) h.character

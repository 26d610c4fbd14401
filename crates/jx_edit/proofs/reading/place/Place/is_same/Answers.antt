use Rattle.std.proofs.Common.{sym, ◌∙◌, rules}
use Rattle.jx_edit.proofs.Links.{same_place}
use Rattle.jx_edit.proofs.reading.place.Place.is_same.Goals as goal

pub returns : goal.returns
returns c = λ e.
    sym c.self.view_is
    ∙ same_place c.self.inside.state c.other.inside.state c.self.inside.expect c.other.inside.expect c.self.inside.holders.items c.other.inside.holders.items
    (c.is_state.ensures (search rules)) (c.is_expect.ensures (search rules)) (sym c.deref.ensures.value ∙ c.are_same.ensures e ∙ c.deref-2.ensures.value)
    ∙ c.other.view_is

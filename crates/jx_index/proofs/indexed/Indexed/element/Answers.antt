use Rattle.std.proofs.Common.{ℕ, List, Option, length, sym, ap, ◌∙◌}
use Rattle.std.specs.Prelude.{ok_or, slice_get}
use Rattle.jx_index.specs.declared.array_token.Place.{Place}
use Rattle.jx_index.specs.declared.find_fault.FindFault.TheVariants.{PastEnd}
use Rattle.jx_index.specs.declared.units.Spelling.TheVariants.{InToken}
use Rattle.jx_index.specs.ArrayTokens.{place_in}
use Rattle.jx_index.specs.Leads.{at_place}
use Rattle.jx_index.specs.Nodes.{child_numbers}
use Rattle.jx_index.specs.Units.{chars_units}
use Rattle.jx_index.proofs.Each.{element_is}
use Rattle.jx_index.proofs.indexed.Indexed.element.Goals as goal

pub returns-in-Element : goal.returns-in-Element
returns-in-Element c =
    let cs = child_numbers c.args.self.now.rows c.args.array in
    c.ok_or.ensures.value
    ∙ ap (λ (o : Option ℕ). ok_or o (PastEnd c.args.token)) (c.node_at.ensures ∙ ap (λ (x : List ℕ). slice_get x c.in-Element.at) c.elements-elements.ensures)
    ∙ sym (element_is cs c.in-Element.at c.args.token)
    ∙ ap (λ (p : Place). at_place p cs c.args.token)
    (sym c.in-Element.is
    ∙ c.place_of_token.ensures
    ∙ ap (λ (u : List ℕ). place_in u (length c.elements-elements.result.now)) c.new.ensures
    ∙ ap (λ (x : List ℕ). place_in (chars_units InToken 0 c.args.name.now) (length x)) c.elements-elements.ensures)

use Rattle.std.proofs.Common.{◌∙◌, Option, sym, ap}
use Rattle.jx_index.specs.Names.{units_of_name}
use Rattle.jx_index.specs.Nodes.{name_in}
use Rattle.jx_index.specs.declared.row.Row.{Row}
use Rattle.jx_string.specs.Texts.{string_units}
use Rattle.jx_wire.proofs.Nodes.{no_units, string_at}
use Rattle.jx_wire.proofs.members.name_of.Goals as goal

pub returns-in_default : goal.returns-in_default
returns-in_default c = no_units ∙ ap (λ (o : Option Row). units_of_name c.args.text.now (name_in o)) (sym c.in_default.is ∙ c.row_of.ensures)

pub returns-in-Some-name : goal.returns-in-Some-name
returns-in-Some-name c =
    ap string_units c.bytes_at.ensures ∙ string_at c.args.text.now c.in-Some-name.name
    ∙ ap (units_of_name c.args.text.now) (sym c.in-Some-name.is) ∙ ap (λ (o : Option Row). units_of_name c.args.text.now (name_in o)) (sym c.in-Some.is ∙ c.row_of.ensures)

pub returns-in-None : goal.returns-in-None
returns-in-None c =
    no_units ∙ ap (units_of_name c.args.text.now) (sym c.in-None.is) ∙ ap (λ (o : Option Row). units_of_name c.args.text.now (name_in o)) (sym c.in-Some.is ∙ c.row_of.ensures)

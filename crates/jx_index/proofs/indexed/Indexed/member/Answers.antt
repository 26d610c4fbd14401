use Rattle.std.proofs.Common.{List, ap, ◌∙◌}
use Rattle.std.specs.Prelude.{filter}
use Rattle.jx_index.specs.declared.row.Row.{Row}
use Rattle.jx_index.specs.declared.units.Spelling.TheVariants.{InToken}
use Rattle.jx_index.specs.Leads.{only}
use Rattle.jx_index.specs.Names.{name_units}
use Rattle.jx_index.specs.Nodes.{child_numbers}
use Rattle.jx_index.specs.RowsLead.{is_equal}
use Rattle.jx_index.specs.Units.{chars_units}
use Rattle.jx_index.proofs.Orders.{equal_kept}
use Rattle.jx_index.proofs.indexed.Indexed.member.Goals as goal
use Prim.Native.Nat.{ℕ}

pub returns : goal.returns
returns c =
    let v = c.args.self.now in
    let units = chars_units InToken 0 c.args.name.now in
    let names = c.name_order-order.result.names.now in
    c.find_member.ensures
    ∙ ap (λ (t : List ℕ). only (filter (is_equal t c.rows.result.now units) names) c.args.token) c.text.ensures
    ∙ ap (λ (r : List Row). only (filter (is_equal v.text r units) names) c.args.token) c.rows.ensures.same
    ∙ ap (λ (x : List ℕ). only x c.args.token) (equal_kept (name_units v.text v.rows) units (child_numbers v.rows c.args.object) names c.name_order-order.ensures.order.equal_by_place)

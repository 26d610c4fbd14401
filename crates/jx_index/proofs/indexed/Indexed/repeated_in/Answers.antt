use Rattle.std.proofs.Common.{ℕ, List, subst}
use Rattle.std.specs.List.Sorted.{IsStableBy}
use Rattle.jx_index.specs.declared.row.Row.{Row}
use Rattle.jx_index.specs.Names.{is_below}
use Rattle.jx_index.specs.Nodes.{IsObjectAt, child_numbers}
use Rattle.jx_index.specs.Repeats.{IsLeast, IsRepeatIn}
use Rattle.jx_index.proofs.Ties.{first_in_object}
use Rattle.jx_index.proofs.indexed.Indexed.repeated_in.Goals as goal

pub returns : goal.returns
returns c =
    let text : List ℕ = c.args.self.now.text in
    let rows : List Row = c.args.self.now.rows in
    let names : List ℕ = c.names-names.result.now in
    let is : IsObjectAt rows c.args.node = subst (λ (t : List Row). IsObjectAt t c.args.node) c.rows.ensures.same (c.is_object.ensures.0 c.if-not-is_object.false) in
    let stable : IsStableBy (is_below text rows) (child_numbers rows c.args.node) names =
    subst (λ (n : ℕ). IsStableBy (is_below text rows) (child_numbers rows n) names) c.new.ensures c.names-names.ensures.equal_by_place in
    let least : IsLeast (IsRepeatIn text rows names) c.first_repeat.result =
    subst (λ (t : List ℕ). IsLeast (IsRepeatIn t rows names) c.first_repeat.result) c.text.ensures
    (subst (λ (t : List Row). IsLeast (IsRepeatIn c.text.result.now t names) c.first_repeat.result) c.rows-2.ensures.same c.first_repeat.ensures) in
    first_in_object text rows c.args.node names c.first_repeat.result is stable least

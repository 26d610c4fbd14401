use Rattle.std.proofs.Common.{List, Option, Some, ℕ, refl, ap, ◌∙◌, sym, subst}
use Rattle.std.specs.Prelude.{slice_range}
use Rattle.jx_index.specs.Pointers.{tokens}
use Rattle.jx_index.specs.declared.row.Row.{Row}
use Rattle.jx_lex.specs.Token.{IsString}
use Rattle.jx_wire.specs.Values.{seen, ValueIn}
use Rattle.jx_wire.specs.inside.Nodes.{row_in, row_value}
use Rattle.jx_wire.proofs.Strings.{spelt_at, text_there, tree_of, value_is}
use Rattle.jx_wire.proofs.message.Message.value.Goals as goal

pub returns-in_err-row-clause-at : goal.returns-in_err-row-clause-at
returns-in_err-row-clause-at c = λ pointer at tree is.
    let body = c.args.self.now in
    let table_is = c.rows.ensures.tree 64 tree (text_there c.self.inside.index body tree c.self.view_is c.self.invariant.0 is) in
    value_is body tree c.rows.result.now pointer c.args.node.now table_is (c.rows_of_look_ups.ensures.led body tree (tokens pointer)) (at tree is)
    ∙ ap (row_value body) (sym c.row_of.ensures ∙ c.in_err-row.was) ∙ ap seen (sym c.from_residual.ensures)

pub returns-clause-at : goal.returns-clause-at
returns-clause-at c = λ pointer at tree is.
    let body = c.args.self.now in
    let row = c.in_ok-row.row in
    let table_is = c.rows.ensures.tree 64 tree (text_there c.self.inside.index body tree c.self.view_is c.self.invariant.0 is) in
    let bytes_are = c.bytes_at.ensures ∙ ap (λ (l : List ℕ). slice_range l row.span.start row.span.end) (c.text.ensures ∙ c.self.view_is) in
    value_is body tree c.rows.result.now pointer c.args.node.now table_is (c.rows_of_look_ups.ensures.led body tree (tokens pointer)) (at tree is)
    ∙ ap (row_value body) (sym c.row_of.ensures ∙ c.in_ok-row.was)
    ∙ ap (λ (l : List ℕ). let value : Option ValueIn = Some (record { kind = row.kind; bytes = l }) in value) (sym bytes_are)

pub returns-clause-spelt : goal.returns-clause-spelt
returns-clause-spelt c = λ string.
    let text = c.self.inside.index.text in
    let row = c.in_ok-row.row in
    let t = tree_of text c.self.invariant.1 in
    let table_is = c.rows.ensures.tree 64 t.0 (text_there c.self.inside.index text t.0 refl c.self.invariant.0 t.1) in
    let row_is = ap (λ (l : List Row). row_in l c.args.node.now) (sym table_is) ∙ sym c.row_of.ensures ∙ c.in_ok-row.was in
    let told = spelt_at text t.0 c.args.node.now row t.1 (c.rows_of_look_ups.ensures.nodes t.0) row_is string in
    (told.0, subst (λ (l : List ℕ). IsString l told.0) (sym (c.bytes_at.ensures ∙ ap (λ (l : List ℕ). slice_range l row.span.start row.span.end) c.text.ensures)) told.1)

use Rattle.std.proofs.Common.{List, Option, ℕ, ap, ◌∙◌, arith, decimal, length, sym, subst}
use Rattle.std.specs.Prelude.{slice_get}
use Rattle.std.specs.Result.{result_ok}
use Rattle.jx_index.specs.Nodes.{child_numbers}
use Rattle.jx_index.specs.Pointers.{tokens}
use Rattle.jx_index.specs.declared.row.Row.{Row}
use Rattle.jx_lex.specs.declared.kind.Kind.TheVariants as kinds
use Rattle.jx_wire.specs.Requests.{IsOfKind}
use Rattle.jx_wire.specs.inside.Nodes.{row_in, row_value}
use Rattle.jx_wire.proofs.Nodes.{decimal_plain, element_at, few_children, is_array, is_no_array, some_more}
use Rattle.jx_wire.proofs.Strings.{body_there, text_there, value_is}
use Rattle.jx_wire.proofs.message.Message.elements.Goals as goal

pub returns-in-Array-clause-list : goal.returns-in-Array-clause-list
returns-in-Array-clause-list c = λ pointer at yes tree is.
    let body = c.args.self.now in
    let table = c.rows.result.now in
    let table_is = c.rows.ensures.tree 64 tree (text_there c.self.inside.index body tree c.self.view_is c.self.invariant.0 is) in
    let value = value_is body tree table pointer c.args.node.now table_is (c.rows_of_look_ups.ensures.led body tree (tokens pointer)) (at tree is)
    ∙ ap (λ (o : Option ℕ). row_value body (row_in table o)) c.in_ok-node.was in
    subst (IsOfKind kinds.Array) (sym value) (is_array body table c.in_ok-node.node (sym c.kind_of.ensures ∙ c.in-Array.is))

pub returns-in-Array-clause-each : goal.returns-in-Array-clause-each
returns-in-Array-clause-each c = λ pointer at number small tree is.
    let body = c.args.self.now in
    let index = c.self.inside.index in
    let table = c.rows.result.now in
    let node = c.in_ok-node.node in
    let table_is = c.rows.ensures.tree 64 tree (text_there index body tree c.self.view_is c.self.invariant.0 is) in
    ap result_ok (some_more body table _ _ _ tree (body_there index body tree c.self.view_is c.self.invariant.0 is) table_is pointer (decimal number) node (decimal_plain number small) (at tree is ∙ c.in_ok-node.was))
    ∙ element_at body table node (length (tokens pointer)) number (sym c.kind_of.ensures ∙ c.in-Array.is) small
    ∙ ap (λ (l : List ℕ). slice_get l number) (ap (λ (l : List Row). child_numbers l node) c.rows.ensures.same ∙ sym c.children.ensures)

pub returns-in-Array-clause-few : goal.returns-in-Array-clause-few
returns-in-Array-clause-few c =
    let index = c.self.inside.index in
    let same = ap length c.children.ensures in
    let few = few_children index.rows c.in_ok-node.node in
    let rows_are = ap length c.rows.ensures.same in
    omega (arith, same, few, rows_are)

pub returns-in_default-clause-no_list : goal.returns-in_default-clause-no_list
returns-in_default-clause-no_list c = λ pointer at no tree is h.
    let body = c.args.self.now in
    let table = c.rows.result.now in
    let table_is = c.rows.ensures.tree 64 tree (text_there c.self.inside.index body tree c.self.view_is c.self.invariant.0 is) in
    let value = value_is body tree table pointer c.args.node.now table_is (c.rows_of_look_ups.ensures.led body tree (tokens pointer)) (at tree is)
    ∙ ap (λ (o : Option ℕ). row_value body (row_in table o)) c.in_ok-node.was in
    is_no_array body table c.in_ok-node.node (λ e. c.in_default.not-Array (c.kind_of.ensures ∙ e)) (subst (IsOfKind kinds.Array) value h)

use Rattle.std.proofs.Common.{◌≡◌, List, ℕ, ap, ◌∙◌, length, sym, subst}
use Rattle.std.specs.Result.{result_ok}
use Rattle.jx_index.specs.ByNames.{IsVerdictBy}
use Rattle.jx_index.specs.Pointers.{tokens}
use Rattle.jx_index.specs.Rows.{rows}
use Rattle.jx_index.specs.RowsLead.{row_token}
use Rattle.jx_run.specs.Tree.{Tree}
use Rattle.jx_run.specs.declared.texts.verdict.Verdict.TheVariants.{Accepted}
use Rattle.jx_wire.specs.Messages.{wire_settings}
use Rattle.jx_wire.specs.Values.{IsBody}
use Rattle.jx_wire.proofs.Nodes.{none_more, some_more, word_plain}
use Rattle.jx_wire.proofs.Strings.{body_there, names_once, text_there}
use Rattle.jx_wire.proofs.message.Message.member.Goals as goal

pub returns-in_err-node : goal.returns-in_err-node
returns-in_err-node c = λ word pointer at tree is.
    let body = c.args.self.now in
    let index = c.self.inside.index in
    let table_is = c.rows-rows.ensures.tree 64 tree (text_there index body tree c.self.view_is c.self.invariant.0 is) in
    none_more body c.rows-rows.result.now _ _ _ tree (body_there index body tree c.self.view_is c.self.invariant.0 is) table_is pointer c.args.name.now (word_plain c.args.name.now word) (at tree is ∙ c.in_err-node.was)
    ∙ sym c.from_residual.ensures

pub returns : goal.returns
returns c = λ word pointer at tree is.
    let body : List ℕ = c.args.self.now in
    let index = c.self.inside.index in
    let name : List ℕ = c.args.name.now in
    let node : ℕ = c.in_ok-node.node in
    let k : ℕ = length (tokens pointer) in
    let table_is : (t : Tree) → IsBody body t → index.rows ≡ rows t = λ t r. sym c.rows-rows.ensures.same ∙ c.rows-rows.ensures.tree 64 t (text_there index body t c.self.view_is c.self.invariant.0 r) in
    let there = body_there index body tree c.self.view_is c.self.invariant.0 is in
    let verdict = subst (λ (l : List ℕ). IsVerdictBy wire_settings l Accepted) c.self.view_is c.self.invariant.1 in
    let once = c.look_ups_with_unique_names.ensures body _ _ _ tree there (names_once body index.rows tree verdict table_is is) in
    let led = some_more body index.rows _ _ _ tree there (table_is tree is) pointer name node (word_plain name word) (at tree is ∙ c.in_ok-node.was)
    ∙ ap (λ (l : List ℕ). row_token l index.rows name node k) (sym c.self.view_is) in
    ap result_ok led ∙ c.member_of.ensures k word (λ e. once _ k (led ∙ e))

use Rattle.std.proofs.Common.{◌∙◌, List, sym, ap}
use Rattle.jx_index.specs.Nodes.{kind_at}
use Rattle.jx_index.specs.declared.row.Row.{Row}
use Rattle.jx_wire.proofs.Nodes.{member_is, no_member}
use Rattle.jx_wire.proofs.members.member_of.Goals as goal

pub returns-in-Object : goal.returns-in-Object
returns-in-Object c = λ k word once.
    let index = c.args.index.now in
    let kind_is = ap (λ (l : List Row). kind_at l c.args.node) (sym c.rows.ensures.same) ∙ sym c.kind_of.ensures ∙ c.in-Object.is in
    member_is index.text index.rows c.args.name.now c.args.node k kind_is once ∙ c.child_named.ensures

pub returns-in_default : goal.returns-in_default
returns-in_default c = λ k word once.
    let index = c.args.index.now in
    no_member index.text index.rows c.args.name.now c.args.node k word (λ e. c.in_default.not-Object (c.kind_of.ensures ∙ ap (λ (l : List Row). kind_at l c.args.node) c.rows.ensures.same ∙ e))

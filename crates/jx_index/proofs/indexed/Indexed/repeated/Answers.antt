use Rattle.std.proofs.Common.{◌≡◌, ℕ, suc, ◌+◌, ◌≤◌, List, Option, length, sym, ap, subst, arith}
use Rattle.jx_index.specs.declared.row.Row.{Row}
use Rattle.jx_index.specs.inside.Ties.{IsRepeatFrom}
use Rattle.jx_index.proofs.Ties.{Leads, at_first, at_last, object_step, no_more_objects, from_any}
use Rattle.jx_index.proofs.indexed.Indexed.repeated.Goals as goal

pub loop-node-init : goal.loop-node-init
loop-node-init c = at_first (IsRepeatFrom c.args.self.now.text c.args.self.now.rows 0)

pub loop-node-preserved : goal.loop-node-preserved
loop-node-preserved c =
    let text : List ℕ = c.args.self.now.text in
    let rows : List Row = c.args.self.now.rows in
    let node : ℕ = c.loop-node.node in
    let next : node + 1 ≡ suc node = omega arith in
    subst (λ (o : Option ℕ). Leads (IsRepeatFrom text rows 0) (IsRepeatFrom text rows (node + 1)) o) (sym c.earlier-first.ensures)
    (object_step text rows node (node + 1) c.loop-node.first c.repeated_in.result next c.repeated_in.ensures c.loop-node.invariant)

pub returns : goal.returns
returns c =
    let text : List ℕ = c.args.self.now.text in
    let rows : List Row = c.args.self.now.rows in
    let node : ℕ = c.loop-node.node in
    let test = c.loop-node-test.false in
    let same : length c.rows-node-end.result.now ≡ length rows = ap length c.rows-node-end.ensures.same in
    let past : length rows ≤ node = omega (arith, test, same) in
    from_any text rows c.loop-node.first
    (at_last (IsRepeatFrom text rows 0) (IsRepeatFrom text rows node) c.loop-node.first c.loop-node.invariant (no_more_objects text rows node past))

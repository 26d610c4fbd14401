use Rattle.std.proofs.Common.{ap, sym, subst, ◌∙◌}
use Rattle.std.proofs.lemmas.List.Elements.{All-get_or}
use Rattle.jx_index.specs.inside.Building.{Building, make}
use Rattle.jx_index.specs.inside.Built.{built, Fits}
use Rattle.jx_index.proofs.Fitting.{mark_fits}
use Rattle.jx_index.proofs.InOrders.{IsLow}
use Rattle.jx_index.proofs.Steps.{make_step, make_done}
use Rattle.jx_index.proofs.builder.nodes_from_marks.Goals as goal

pub loop-mark-init : goal.loop-mark-init
loop-mark-init c = record {
  fits = subst Fits (sym c.new-builder.ensures) tt;
  same = ap (make c.args.last c.args.marks.now c.args.ends.now) c.new-builder.ensures;
}

pub loop-mark-preserved : goal.loop-mark-preserved
loop-mark-preserved c =
    let i = c.loop-mark.invariant in
    let next = c.in_ok-mark.ensures i.fits (All-get_or IsLow c.args.marks.now c.loop-mark.mark-index _ c.loop-mark-test.true c.requires) in
    record {
      fits = subst Fits (sym next) (mark_fits _ _ _ _ i.fits);
      same =
          make_step c.args.last c.loop-mark.mark-index c.args.marks.now c.loop-mark.left.now c.later_ends-left.result.now c.first_end-end.result
          (built c.loop-mark.builder) (built c.mark.new.self) _ c.loop-mark-test.true c.later_ends-left.ensures c.first_end-end.ensures next
          ∙ i.same;
    }

pub returns-clause-rows : goal.returns-clause-rows
returns-clause-rows c =
    c.into_nodes.ensures.rows
    ∙ ap (λ (b : Building). b.rows) (sym (make_done c.args.last c.loop-mark.mark-index c.args.marks.now c.loop-mark.left.now (built c.loop-mark.builder) c.loop-mark-test.false) ∙ c.loop-mark.invariant.same)

pub returns-clause-after : goal.returns-clause-after
returns-clause-after c =
    c.into_nodes.ensures.after
    ∙ ap (λ (b : Building). b.after) (sym (make_done c.args.last c.loop-mark.mark-index c.args.marks.now c.loop-mark.left.now (built c.loop-mark.builder) c.loop-mark-test.false) ∙ c.loop-mark.invariant.same)

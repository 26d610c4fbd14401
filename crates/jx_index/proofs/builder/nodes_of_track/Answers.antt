use Rattle.std.proofs.Common.{ap, sym, subst, ◌∙◌}
use Rattle.jx_index.specs.inside.Building.{Building, make}
use Rattle.jx_index.specs.inside.Built.{built, Fits}
use Rattle.jx_index.proofs.InOrders.{one_further, all_further}
use Rattle.jx_index.proofs.builder.nodes_of_track.Goals as goal

pub loop-mark-init : goal.loop-mark-init
loop-mark-init c = λ low. record {
  fits = subst Fits (sym c.new-builder.ensures) tt;
  low = low;
  same = ap (make c.args.last c.args.marks c.args.ends) c.new-builder.ensures;
}

pub loop-mark-preserved : goal.loop-mark-preserved
loop-mark-preserved c = λ low.
    one_further c.args.last c.loop-mark.marks c.next.new.self c.args.marks c.loop-mark.ends c.take_end-end.new.ends c.args.ends (built c.loop-mark.builder) (built c.mark.new.self) c.in-Some.mark c.take_end-end.result
    c.in-Some.ensures.steps c.take_end-end.ensures.left c.take_end-end.ensures.end c.in_ok-mark.ensures (c.loop-mark.invariant low)

pub returns-clause-rows : goal.returns-clause-rows
returns-clause-rows c = λ low. c.into_nodes.ensures.rows ∙ ap (λ (b : Building). b.rows) (all_further c.args.last c.loop-mark.marks c.args.marks c.loop-mark.ends c.args.ends (built c.loop-mark.builder) c.in_default.ensures.steps.0 (c.loop-mark.invariant low))

pub returns-clause-after : goal.returns-clause-after
returns-clause-after c = λ low. c.into_nodes.ensures.after ∙ ap (λ (b : Building). b.after) (all_further c.args.last c.loop-mark.marks c.args.marks c.loop-mark.ends c.args.ends (built c.loop-mark.builder) c.in_default.ensures.steps.0 (c.loop-mark.invariant low))

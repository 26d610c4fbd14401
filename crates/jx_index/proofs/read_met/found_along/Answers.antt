use Rattle.std.proofs.Common.{◌+◌, List, Some, map, refl, sym, ◌∙◌}
use Rattle.jx_index.specs.declared.finder.Met.{Met}
use Rattle.jx_index.specs.inside.Finding.{met_at}
use Rattle.jx_index.proofs.Along.{all_once, met_mapped, one_more_once}
use Rattle.jx_index.proofs.read_met.found_along.Goals as goal

pub loop-node-preserved : goal.loop-node-preserved
loop-node-preserved c =
    let l = c.loop-node in
    let met : List Met = c.args.met.now in
    one_more_once (map (met_at met) c.args.way.now) l.node-index (l.node-index + 1) l.last (Some c.in-Once.found) c.in-Once.found refl refl
    (met_mapped met c.args.way.now l.node-index c.loop-node-test.true ∙ sym c.met_at.ensures ∙ c.in-Once.is) l.invariant

pub returns : goal.returns
returns c = all_once c.args.met.now c.args.way.now c.loop-node.node-index c.loop-node.last c.loop-node-test.false c.loop-node.invariant c.loop-node.auto.node-index-end

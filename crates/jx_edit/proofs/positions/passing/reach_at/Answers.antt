use Rattle.std.proofs.Common.{arith, refl}
use Rattle.jx_edit.specs.declared.positions.passing.Sought.TheVariants.{To}
use Rattle.jx_edit.proofs.Passing.{position_past, reach_past, rest_fits}
use Rattle.jx_edit.proofs.Texts.{rest_long}
use Rattle.jx_edit.proofs.positions.passing.reach_at.Goals as goal

pub reach_in-near-requires-clause-lines : goal.reach_in-near-requires-clause-lines
reach_in-near-requires-clause-lines c =
    (rest_fits c.args.encoding c.args.from (To c.args.to) c.args.chunks.now c.pass_groups-border.result c.pass_groups-border.ensures c.requires.lines c.requires.characters).0

pub reach_in-near-requires-clause-characters : goal.reach_in-near-requires-clause-characters
reach_in-near-requires-clause-characters c =
    (rest_fits c.args.encoding c.args.from (To c.args.to) c.args.chunks.now c.pass_groups-border.result c.pass_groups-border.ensures c.requires.lines c.requires.characters).1

pub overflow_add-result : goal.overflow_add-result
overflow_add-result c =
    omega (arith, c.pass_groups-border.ensures.long, c.reach_in-near.ensures.within, rest_long c.args.chunks.now c.pass_groups-border.result.before, c.requires.lines)

pub returns-clause-count : goal.returns-clause-count
returns-clause-count c =
    reach_past c.args.encoding c.args.from c.args.to c.args.chunks.now c.pass_groups-border.result c.reach_in-near.result.count c.pass_groups-border.ensures c.reach_in-near.ensures.count

pub returns-clause-within : goal.returns-clause-within
returns-clause-within c = omega (arith, c.pass_groups-border.ensures.long, c.reach_in-near.ensures.within, rest_long c.args.chunks.now c.pass_groups-border.result.before)

pub returns-clause-position : goal.returns-clause-position
returns-clause-position c =
    let border = c.pass_groups-border.result in
    position_past c.args.encoding c.args.from c.reach_in-near.result.position (To c.args.to) c.args.chunks.now border c.reach_in-near.result.count _ c.pass_groups-border.ensures refl
    c.reach_in-near.ensures.position

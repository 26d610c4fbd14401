use Rattle.std.proofs.Common.{arith, ◌-◌}
use Rattle.jx_edit.specs.declared.positions.passing.Sought.TheVariants.{At}
use Rattle.jx_edit.proofs.Passing.{passed_low, position_past, rest_fits}
use Rattle.jx_edit.proofs.positions.passing.position_at.Goals as goal

pub position_in-requires-clause-lines : goal.position_in-requires-clause-lines
position_in-requires-clause-lines c =
    (rest_fits c.args.encoding c.args.from (At c.args.at) c.args.chunks.now c.pass_groups-border.result c.pass_groups-border.ensures c.requires.lines c.requires.characters).0

pub position_in-requires-clause-characters : goal.position_in-requires-clause-characters
position_in-requires-clause-characters c =
    (rest_fits c.args.encoding c.args.from (At c.args.at) c.args.chunks.now c.pass_groups-border.result c.pass_groups-border.ensures c.requires.lines c.requires.characters).1

pub returns : goal.returns
returns c =
    let border = c.pass_groups-border.result in
    position_past c.args.encoding c.args.from c.position_in.result (At c.args.at) c.args.chunks.now border (c.args.at - border.bytes) c.args.at c.pass_groups-border.ensures
    (omega (arith, passed_low c.args.encoding c.args.from c.args.at c.args.chunks.now border c.pass_groups-border.ensures)) c.position_in.ensures

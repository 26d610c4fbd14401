use Rattle.jx_edit.proofs.Steps.{behind_fits, reach_on, reach_position}
use Rattle.jx_edit.proofs.positions.steps.Steps.reach.Goals as goal

pub reach-near-requires-clause-lines : goal.reach-near-requires-clause-lines
reach-near-requires-clause-lines c =
    (behind_fits c.args.self.now.encoding c.args.from c.args.to c.args.bytes.now c.last_before-last.result c.last_before-last.ensures c.requires.lines c.requires.characters).0

pub reach-near-requires-clause-characters : goal.reach-near-requires-clause-characters
reach-near-requires-clause-characters c =
    (behind_fits c.args.self.now.encoding c.args.from c.args.to c.args.bytes.now c.last_before-last.result c.last_before-last.ensures c.requires.lines c.requires.characters).1

pub returns-clause-count : goal.returns-clause-count
returns-clause-count c =
    reach_on c.args.self.now.encoding c.args.from c.args.to c.args.bytes.now c.last_before-last.result c.reach-near.result.count c.last_before-last.ensures c.reach-near.ensures.count

pub returns-clause-position : goal.returns-clause-position
returns-clause-position c =
    reach_position c.args.self.now.encoding c.args.from c.args.to c.reach-near.result.position c.args.bytes.now c.last_before-last.result c.reach-near.result.count c.last_before-last.ensures
    c.reach-near.ensures.position

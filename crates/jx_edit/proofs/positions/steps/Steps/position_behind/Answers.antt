use Rattle.std.proofs.Common.{◌*◌, ◌/◌, arith, ◌∙◌, ap}
use Rattle.jx_edit.specs.inside.Moves.{position_of}
use Rattle.jx_edit.proofs.Steps.{step_fits, step_on}
use Rattle.jx_edit.proofs.positions.steps.Steps.position_behind.Goals as goal

pub joined-requires : goal.joined-requires
joined-requires c =
    let k = c.args.at / 128 in
    step_fits c.args.self.now.encoding c.position.result c.behind.result c.args.bytes.now (k * 128) c.args.at (omega arith) c.requires.within (omega arith)
    (c.position.ensures ∙ ap position_of c.index-step.ensures ∙ c.requires.steps k c.index-step.result.now (omega arith)) c.behind.ensures

pub returns-then-number-len : goal.returns-then-number-len
returns-then-number-len c =
    let k = c.args.at / 128 in
    c.joined.ensures
    ∙ step_on c.args.self.now.encoding c.position.result c.behind.result c.args.bytes.now (k * 128) c.args.at (omega arith)
    (c.position.ensures ∙ ap position_of c.index-step.ensures ∙ c.requires.steps k c.index-step.result.now (omega arith)) c.behind.ensures

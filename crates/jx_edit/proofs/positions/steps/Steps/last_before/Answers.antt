use Rattle.std.proofs.Common.{◌*◌, arith, ap, sym, ◌∙◌}
use Rattle.jx_edit.specs.inside.Moves.{position_of}
use Rattle.jx_edit.proofs.Steps.{before_fits, before_more, before_none}
use Rattle.jx_edit.proofs.positions.steps.Steps.last_before.Goals as goal

pub loop-number-init : goal.loop-number-init
loop-number-init c = before_none c.args.self.now.encoding c.args.from c.args.to c.args.bytes.now

pub joined-position-requires : goal.joined-position-requires
joined-position-requires c =
    let k = c.loop-number.number in
    before_fits c.args.self.now.encoding c.args.from c.position.result c.args.bytes.now (k * 128)
    (c.position.ensures ∙ ap position_of c.index.ensures ∙ c.requires.steps k c.index.result.now (omega arith)) c.requires.lines c.requires.characters

pub loop-number-preserved : goal.loop-number-preserved
loop-number-preserved c =
    let k = c.loop-number.number in
    before_more c.args.self.now.encoding c.args.from c.args.to c.joined-position.result c.position.result c.args.bytes.now k c.min-count.result (omega arith)
    (c.position.ensures ∙ ap position_of c.index.ensures ∙ c.requires.steps k c.index.result.now (omega arith)) c.joined-position.ensures
    (sym c.is_behind.ensures ∙ c.if-is_behind.false)

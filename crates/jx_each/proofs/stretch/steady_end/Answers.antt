use Rattle.jx_each.proofs.Stretching.{chars_stretch, deep_stretch, flat_stretch, none_stretch}
use Rattle.jx_each.proofs.stretch.steady_end.Goals as goal

pub returns-then-height-gt1-clause-stretch : goal.returns-then-height-gt1-clause-stretch
returns-then-height-gt1-clause-stretch c = deep_stretch c.args.place c.args.height _ c.in-Between.is c.if-height-gt1.true c.deep_end.ensures.run

pub returns-else-height-gt1-clause-stretch : goal.returns-else-height-gt1-clause-stretch
returns-else-height-gt1-clause-stretch c = flat_stretch c.args.place c.args.height _ c.in-Between.is c.flat_end.ensures.run

pub returns-in-Inside-clause-stretch : goal.returns-in-Inside-clause-stretch
returns-in-Inside-clause-stretch c = chars_stretch c.args.place c.args.height _ c.in-Inside.is c.chars_end.ensures.run

pub returns-in-Escaped-clause-stretch : goal.returns-in-Escaped-clause-stretch
returns-in-Escaped-clause-stretch c = none_stretch c.args.place c.args.height c.args.bytes.now c.args.from

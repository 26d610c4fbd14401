use Rattle.jx_each.proofs.Stretching.{near_on}
use Rattle.jx_each.proofs.stretch.near_stretch.Goals as goal

pub returns-clause-stretch : goal.returns-clause-stretch
returns-clause-stretch c =
    near_on c.args.place c.next-place.result c.args.height c.height_next-height.result c.args.bytes.now c.args.from c.steady_end-end.result c.requires.within c.steady_end-end.ensures.bounds.0
    c.requires.goes.0 c.requires.goes.1 c.next-place.ensures c.height_next-height.ensures.value c.steady_end-end.ensures.stretch

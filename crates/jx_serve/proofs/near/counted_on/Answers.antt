use Rattle.jx_serve.proofs.Nearby.{near_some}
use Rattle.jx_serve.proofs.near.counted_on.Goals as goal

pub returns-in-Some : goal.returns-in-Some
returns-in-Some c = λ bytes begins known.
    near_some c.args.encoding bytes c.args.before.now c.in-Some.between.now c.args.known.position c.after.result c.args.known.offset c.args.offset begins known
    c.in-Some.ensures.ordered c.in-Some.ensures.within c.in-Some.ensures.between c.after.ensures

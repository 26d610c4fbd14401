use Rattle.jx_serve.proofs.Nearby.{beginning_is}
use Rattle.jx_serve.proofs.near.beginning.Goals as goal

pub returns : goal.returns
returns c = λ bytes h. beginning_is c.args.text.now bytes c.args.kept c.min.result c.min.ensures h

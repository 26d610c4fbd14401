use Rattle.std.proofs.lemmas.Result.{IfOk-weaker}
use Rattle.std.specs.Prelude.{None}
use Rattle.jx_portion.proofs.portion.Portion.and.Goals as goal

pub returns-clause-of : goal.returns-clause-of
returns-clause-of c = IfOk-weaker c.followed_by.result _ _ (λ p h bytes f d is. h bytes c.args.more.now f None d _ is c.in_ok-right.ensures.of) c.followed_by.ensures.of

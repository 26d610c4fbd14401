use Rattle.std.proofs.lemmas.Result.{IfOk-weaker}
use Rattle.jx_portion.proofs.portion.Portion.join.Goals as goal

pub returns-clause-of : goal.returns-clause-of
returns-clause-of c = IfOk-weaker c.followed_by.result _ _ (λ p h xs ys f g d left right. h xs ys f g d d left right) c.followed_by.ensures.of

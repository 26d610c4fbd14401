use Rattle.std.proofs.Common.{◌∷◌, [], subst}
use Rattle.std.proofs.lemmas.Result.{on_ok_weaker}
use Rattle.jx_values.specs.inside.Sought.{HasSought}
use Rattle.jx_values.proofs.sought.seek.Goals as goal

pub returns-else-batch-end : goal.returns-else-batch-end
returns-else-batch-end c =
    on_ok_weaker c.feed.result (λ fed. λ content settings pointer bytes h. fed settings (pointer ∷ []) bytes (subst (λ f. HasSought content settings pointer bytes f) c.in-Some.is h)) c.feed.ensures.fed

use Rattle.std.proofs.Common.{◌∷◌, [], subst}
use Rattle.std.proofs.lemmas.Result.{on_ok_weaker}
use Rattle.jx_c.specs.Values.{HasSought}
use Rattle.jx_c.proofs.streams.stream.seek.Goals as goal

pub returns-else-bytes-end : goal.returns-else-bytes-end
returns-else-bytes-end c =
    on_ok_weaker c.feed.result (λ fed. λ settings pointer input h. fed settings (pointer ∷ []) input (subst (λ f. HasSought settings pointer input f) c.in-Some.is h)) c.feed.ensures.fed

use Rattle.std.proofs.lemmas.Result.{IfOk-weaker}
use Rattle.jx_reduce.proofs.reducing.reductions.Reductions.of.Goals as goal

pub returns-clause-offsets : goal.returns-clause-offsets
returns-clause-offsets c =
    IfOk-weaker c.of_structure.result _ _ (λ f offsets low high a. offsets low high (c.in_ok-structure.ensures.offsets low high a)) c.of_structure.ensures.offsets

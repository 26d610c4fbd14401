use Rattle.std.proofs.Common.{subst}
use Rattle.std.proofs.lemmas.Result.{IfOk-weaker}
use Rattle.jx_cmd_index.specs.declared.saving.Saving.{Saving}
use Rattle.jx_cmd_index.specs.inside.Saving.{IsSavingOf}
use Rattle.jx_cmd_index.proofs.saving.Saving.take.Goals as goal

pub returns-in-Any-clause-taken : goal.returns-in-Any-clause-taken
returns-in-Any-clause-taken c = IfOk-weaker c.take.result _ _
    (λ is taken took has_names settings size bytes more h alone.
    taken took has_names settings size bytes more (subst (λ (s : Saving). IsSavingOf has_names settings size bytes s) c.in-Any.is h) alone)
    c.take.ensures.taken

use Rattle.std.proofs.Common.{Result, Ok, Err, OnOk, subst}
use Rattle.jx_cmd_index.specs.declared.saving.Saving.{Saving}
use Rattle.jx_cmd_index.specs.inside.Saving.{IsSavingOf}
use Rattle.jx_cmd_index.proofs.saving.Saving.feed.Goals as goal

-- what holds where a call gives Ok, and what follows from it
carried : {T E A B : Type 0} (result : Result T E) → OnOk result A → (A → B) → OnOk result B
carried (Ok x) holds goes = goes holds
carried (Err e) holds goes = holds

pub returns-in-Any : goal.returns-in-Any
returns-in-Any c = carried c.feed.result c.feed.ensures.fed
    (λ fed has_names settings chunk bytes h. fed has_names settings chunk bytes (subst (λ (s : Saving). IsSavingOf has_names settings chunk bytes s) c.in-Any.is h))

pub returns-in_ok-feed-in-Unique : goal.returns-in_ok-feed-in-Unique
returns-in_ok-feed-in-Unique c = carried c.feed-in-Unique-2.result c.feed-in-Unique-2.ensures.fed
    (λ fed has_names settings chunk bytes h.
    let both = subst (λ (s : Saving). IsSavingOf has_names settings chunk bytes s) c.in-Unique.is h in
    (fed has_names _ chunk bytes both.0, c.in_ok-feed-in-Unique.ensures.fed settings bytes both.1))

use Rattle.std.proofs.Common.{subst}
use Rattle.std.proofs.lemmas.Result.{IfOk-weaker}
use Rattle.jx_cmd_index.specs.declared.saving.Saving.{Saving}
use Rattle.jx_cmd_index.specs.inside.Saving.{IsSavingOf}
use Rattle.jx_cmd_index.proofs.AnyNames.{any_comes}
use Rattle.jx_cmd_index.proofs.saving.Saving.finish.Goals as goal

pub returns-in-Any : goal.returns-in-Any
returns-in-Any c =
    let e = c.finish.ensures in
    any_comes c.args.self c.in-Any.indexer c.finish.result c.in-Any.is e.index e.names e.savable e.refused

pub returns-in_ok-verdict-in-Unique : goal.returns-in_ok-verdict-in-Unique
returns-in_ok-verdict-in-Unique c = IfOk-weaker c.finish_by_names.result _ _
    (λ read comes has_names settings chunk bytes h.
    let both = subst (λ (s : Saving). IsSavingOf has_names settings chunk bytes s) c.in-Unique.is h in
    comes has_names settings chunk bytes record {
      unique = both.1.names;
      fed = both.0;
      is_verdict = c.in_ok-verdict-in-Unique.ensures.verdict settings bytes both.1;
    })
    c.finish_by_names.ensures

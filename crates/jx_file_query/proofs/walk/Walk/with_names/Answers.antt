use Rattle.std.proofs.Common.{◌∙◌}
use Rattle.std.proofs.lemmas.Result.{IfOk-weaker}
use Rattle.jx_file_query.proofs.walk.Walk.with_names.Goals as goal

pub returns-clause-index : goal.returns-clause-index
returns-clause-index c = IfOk-weaker c.by_names.result _ _ (λ walk same. same ∙ c.in_ok-walk.ensures.index) c.by_names.ensures.index

pub returns-clause-come : goal.returns-clause-come
returns-clause-come c =
    IfOk-weaker c.by_names.result _ _ (λ walk on settings chunk text h tables. on settings chunk text c.args.pointers.items (c.in_ok-walk.ensures.come settings chunk text h) tables) c.by_names.ensures.come

use Rattle.std.specs.Prelude.{Option}
use Rattle.std.proofs.Common.{subst}
use Rattle.std.proofs.lemmas.Result.{IfOk-weaker}
use Rattle.jx_file_index.specs.declared.name_tables.NameTables.{NameTables}
use Rattle.jx_file_build.specs.TextTables.{KeepsNames}
use Rattle.jx_cmd_index.proofs.walking.walk_by.Goals as goal

pub returns-in-Some-clause-come : goal.returns-in-Some-clause-come
returns-in-Some-clause-come c = IfOk-weaker c.with_names.result _ _
    (λ walk come settings chunk text kept. come settings chunk text kept.index (subst (λ (names : Option NameTables). KeepsNames settings chunk text names) c.in-Some.is kept.names))
    c.with_names.ensures.come

pub returns-in-None-clause-come : goal.returns-in-None-clause-come
returns-in-None-clause-come c = IfOk-weaker c.new.result _ _ (λ walk come settings chunk text kept. come settings chunk text kept.index) c.new.ensures.come

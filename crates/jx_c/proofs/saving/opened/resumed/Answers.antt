use Rattle.std.specs.Prelude.{Option}
use Rattle.std.proofs.Common.{subst, ◌∙◌}
use Rattle.std.proofs.lemmas.Result.{IfOk-weaker}
use Rattle.jx_file_index.specs.declared.name_tables.NameTables.{NameTables}
use Rattle.jx_file_build.specs.TextTables.{KeepsNames}
use Rattle.jx_c.proofs.saving.opened.resumed.Goals as goal

pub returns-in-Some-clause-index : goal.returns-in-Some-clause-index
returns-in-Some-clause-index c = IfOk-weaker c.by_names.result _ _ (λ whole same. same ∙ c.resume-whole.ensures.index) c.by_names.ensures.index

pub returns-in-Some-clause-needed : goal.returns-in-Some-clause-needed
returns-in-Some-clause-needed c = IfOk-weaker c.by_names.result _ _ (λ whole same. same ∙ c.resume-whole.ensures.needed) c.by_names.ensures.needed

pub returns-in-Some-clause-value : goal.returns-in-Some-clause-value
returns-in-Some-clause-value c = IfOk-weaker c.by_names.result _ _ (λ whole same. same ∙ c.resume-whole.ensures.value) c.by_names.ensures.value

pub returns-in-Some-clause-come : goal.returns-in-Some-clause-come
returns-in-Some-clause-come c =
    IfOk-weaker c.by_names.result _ _ (λ whole on settings chunk text read h. on settings chunk text read (c.resume-whole.ensures.come settings chunk text read h.come)
    (subst (λ (names : Option NameTables). KeepsNames settings chunk text names) c.in-Some.is h.names)) c.by_names.ensures.come

pub returns-in-None-clause-come : goal.returns-in-None-clause-come
returns-in-None-clause-come c = λ settings chunk text read h. c.resume-whole.ensures.come settings chunk text read h.come

use Rattle.std.proofs.Common.{ℕ, subst}
use Rattle.std.proofs.lemmas.Result.{IfErr-weaker, IfOk-weaker}
use Rattle.jx_run.specs.Settings.{JudgedBy}
use Rattle.jx_run.specs.declared.texts.settings.Settings.{Settings}
use Rattle.jx_run.specs.declared.texts.verdict.Verdict.TheVariants.{Refused}
use Rattle.jx_file_index.specs.Index.{IsIndexOf}
use Rattle.jx_file_build.specs.TextTables.{HasNames}
use Rattle.jx_file_build.proofs.Feedings.{fed_all}
use Rattle.jx_file_build.proofs.indexer.Indexer.finish.Goals as goal

pub returns-clause-index : goal.returns-clause-index
returns-clause-index c =
    let i = c.args.self in
    IfOk-weaker c.in_ok-read.read _ _
    (λ saved made has_names settings chunk bytes h.
    let all = fed_all has_names settings chunk bytes i c.in-Some.held c.in_ok-all.all c.deref.result.now h c.in-Some.is c.deref.ensures.value c.in_ok-all.ensures in
    subst (λ (s : Settings). IsIndexOf s chunk bytes saved.index) h.settings_are (subst (λ (n : ℕ). IsIndexOf i.settings n bytes saved.index) h.chunk_is (made has_names bytes all)))
    c.in_ok-read.ensures.index

pub returns-clause-names : goal.returns-clause-names
returns-clause-names c =
    let i = c.args.self in
    IfOk-weaker c.in_ok-read.read _ _
    (λ saved made has_names settings chunk bytes h.
    let all = fed_all has_names settings chunk bytes i c.in-Some.held c.in_ok-all.all c.deref.result.now h c.in-Some.is c.deref.ensures.value c.in_ok-all.ensures in
    subst (λ (s : Settings). HasNames has_names s chunk bytes saved.names) h.settings_are (subst (λ (n : ℕ). HasNames has_names i.settings n bytes saved.names) h.chunk_is (made has_names bytes all)))
    c.in_ok-read.ensures.names

pub returns-clause-savable : goal.returns-clause-savable
returns-clause-savable c =
    IfOk-weaker c.in_ok-read.read _ _
    (λ saved made has_names settings chunk bytes h.
    made has_names bytes (fed_all has_names settings chunk bytes c.args.self c.in-Some.held c.in_ok-all.all c.deref.result.now h c.in-Some.is c.deref.ensures.value c.in_ok-all.ensures))
    c.in_ok-read.ensures.savable

pub returns-clause-refused : goal.returns-clause-refused
returns-clause-refused c =
    let i = c.args.self in
    IfErr-weaker c.in_ok-read.read _ _
    (λ refusal refused has_names settings chunk bytes h.
    subst (λ (s : Settings). JudgedBy s 0 bytes (Refused refusal)) h.settings_are
    (refused has_names bytes (fed_all has_names settings chunk bytes i c.in-Some.held c.in_ok-all.all c.deref.result.now h c.in-Some.is c.deref.ensures.value c.in_ok-all.ensures)))
    c.in_ok-read.ensures.refused

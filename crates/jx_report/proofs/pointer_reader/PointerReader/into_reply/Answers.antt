use Rattle.std.proofs.Common.{List, subst, sym}
use Rattle.std.specs.Prelude.{None, Option}
use Rattle.jx_run.specs.declared.texts.verdict.Refusal.{Refusal}
use Rattle.jx_index.specs.declared.pointer.PointerFault.{PointerFault}
use Rattle.jx_report.specs.inside.PointerReads.{any_names, IsRefusalByNames}
use Rattle.jx_words.specs.inside.ReadPointers.{AreReadPointers}
use Rattle.jx_report.proofs.AnyNames.{answers_unrefused}
use Rattle.jx_report.proofs.PointerReads.{says_refused}
use Rattle.jx_report.proofs.pointer_reader.PointerReader.into_reply.Goals as goal

pub returns-in-Some : goal.returns-in-Some
returns-in-Some c = λ settings spelt text h.
    let r = subst (λ (o : Option Refusal). IsRefusalByNames settings text o) c.in-Some.is (c.in_ok-refusal.ensures settings text h.compared) in
    says_refused settings spelt text c.in-Some.refusal r

pub returns : goal.returns
returns c = λ settings spelt text h.
    let unrefused : IsRefusalByNames settings text None = subst (λ (o : Option Refusal). IsRefusalByNames settings text o) c.in_default.is (c.in_ok-refusal.ensures settings text h.compared) in
    let read = subst (λ (us : List (Option PointerFault)). AreReadPointers spelt h.pointers us) (sym c.deref.ensures.value) h.read in
    let answers = c.in_ok-answers.ensures (any_names settings) spelt h.pointers text read h.fed in
    c.reply_of_answers.ensures settings spelt text (answers_unrefused settings text spelt c.in_ok-answers.answers c.unique_verdicts_by_settings.ensures.verdict unrefused answers)

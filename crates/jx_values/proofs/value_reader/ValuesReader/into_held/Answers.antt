use Rattle.std.proofs.Common.{List, map, subst, sym}
use Rattle.std.specs.Prelude.{Ok, Option, Result, Vec, string_bytes}
use Rattle.std.specs.declared.alloc.Global.{Global}
use Rattle.std.proofs.lemmas.Result.{IfOk-weaker}
use Rattle.jx_run.specs.declared.texts.verdict.Refusal.{Refusal}
use Rattle.jx_index.specs.declared.pointer.PointerFault.{PointerFault}
use Rattle.jx_words.specs.declared.pointer_answer.PointerAnswer.{PointerAnswer}
use Rattle.jx_words.specs.Answers.{AreAnswersBy, AreAnswersIn}
use Rattle.jx_words.specs.inside.ReadPointers.{AreReadPointers}
use Rattle.jx_values.proofs.Holds.{holds_refused}
use Rattle.jx_values.proofs.value_reader.ValuesReader.into_held.Goals as goal

pub returns-in-Err : goal.returns-in-Err
returns-in-Err c =
    IfOk-weaker c.held_of_refusal.result _ _
    (λ held e. λ text h.
    let task = c.args.task.now in
    let spelt = map string_bytes task.pointers.items in
    let read = subst (λ (us : List (Option PointerFault)). AreReadPointers spelt h.pointers us) (sym c.deref.ensures.value) h.read in
    let answers = subst (AreAnswersBy task.settings text spelt) c.in-Err.is (c.in_ok-refusal.ensures task.settings spelt h.pointers text read h.fed) in
    holds_refused c.args.form task text held.text.items c.in-Err.refusal held.reply.answers.items held.reply.told.items answers e.0 e.1)
    c.held_of_refusal.ensures

pub returns : goal.returns
returns c =
    IfOk-weaker c.held_of_answers.result _ _
    (λ held k. λ text h.
    let task = c.args.task.now in
    let spelt = map string_bytes task.pointers.items in
    let read = subst (λ (us : List (Option PointerFault)). AreReadPointers spelt h.pointers us) (sym c.deref.ensures.value) h.read in
    let answers : AreAnswersBy task.settings text spelt (Ok c.in-Ok.answers) =
    subst (λ (r : Result (Vec PointerAnswer Global) Refusal). AreAnswersBy task.settings text spelt r) c.in-Ok.is (c.in_ok-refusal.ensures task.settings spelt h.pointers text read h.fed) in
    k text answers.0 (subst (AreAnswersIn task.settings text spelt) (sym c.deref-in-Ok.ensures.value) answers.1) h.kept)
    c.held_of_answers.ensures

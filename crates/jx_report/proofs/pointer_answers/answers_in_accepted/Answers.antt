use Rattle.std.proofs.Common.{map, subst}
use Rattle.std.specs.Prelude.{string_bytes, Result, Vec}
use Rattle.std.specs.declared.alloc.Global.{Global}
use Rattle.std.proofs.lemmas.Result.{IfOk-weaker}
use Rattle.jx_run.specs.declared.texts.settings.Settings.{Settings}
use Rattle.jx_run.specs.declared.texts.verdict.Refusal.{Refusal}
use Rattle.jx_words.specs.declared.pointer_answer.PointerAnswer.{PointerAnswer}
use Rattle.jx_words.specs.Answers.{AreAnswersBy}
use Rattle.jx_report.proofs.AnyNames.{answers_by_names}
use Rattle.jx_report.proofs.pointer_answers.answers_in_accepted.Goals as goal

pub returns : goal.returns
returns c =
    let text = c.args.text.now in
    let spelt = map string_bytes c.args.pointers.now in
    IfOk-weaker c.answers_in_one_pass.result _ _
    (λ (r : Result (Vec PointerAnswer Global) Refusal) h. answers_by_names c.unique_verdicts_by_settings.ensures.verdict c.args.settings.now text spelt c.requires r
    (subst (λ (s : Settings). AreAnswersBy s text spelt r) c.with_any_names.ensures h))
    c.answers_in_one_pass.ensures

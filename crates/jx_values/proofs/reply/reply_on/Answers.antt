use Rattle.std.proofs.Common.{◌≡◌, List, ℕ, length, map, ap, subst, sym, ◌∙◌}
use Rattle.std.specs.Prelude.{String, string_bytes, Ok, Result, Vec}
use Rattle.std.specs.declared.alloc.Global.{Global}
use Rattle.std.proofs.lemmas.List.{length-map}
use Rattle.std.proofs.lemmas.Slice.Zip.{AllZip-long}
use Rattle.jx_run.specs.declared.texts.verdict.Refusal.{Refusal}
use Rattle.jx_words.specs.declared.pointer_answer.PointerAnswer.{PointerAnswer}
use Rattle.jx_words.specs.Pointers.{IsAnswerTo}
use Rattle.jx_words.specs.Answers.{AreAnswersBy}
use Rattle.jx_values.proofs.reply.reply_on.Goals as goal

pub told_of_answers-requires : goal.told_of_answers-requires
told_of_answers-requires g c =
    let text : List ℕ = c.args.text.now in
    let pointers : List (String Global) = c.deref.result.now in
    let spelt : List (List ℕ) = map string_bytes pointers in
    let answers : List PointerAnswer = c.in-Ok-2.answers.items in
    let found : AreAnswersBy c.args.task.now.settings text spelt (Ok c.in-Ok-2.answers) =
    subst (λ (r : Result (Vec PointerAnswer Global) Refusal). AreAnswersBy c.args.task.now.settings text spelt r) c.in-Ok-2.is c.in_ok-refusal.ensures in
    let many : length answers ≡ length spelt = AllZip-long (IsAnswerTo text found.1.tree) spelt answers found.1.are_answers in
    ap (λ (xs : List (String Global)). length xs) (c.deref-in-Ok-2.ensures.value ∙ sym c.deref.ensures.value)
    ∙ sym (many ∙ length-map pointers string_bytes)
    ∙ sym (ap (λ (xs : List PointerAnswer). length xs) c.deref-in-Ok-2-2.ensures.value)

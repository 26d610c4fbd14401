use Rattle.std.proofs.Common.{◌≡◌, List, ℕ, length, map, ap, subst, ◌∙◌, sym}
use Rattle.std.specs.Prelude.{string_bytes, Option}
use Rattle.std.specs.List.{AllZip}
use Rattle.std.proofs.lemmas.Result.{IfOk-weaker}
use Rattle.jx_index.specs.declared.pointer.PointerFault.{PointerFault}
use Rattle.jx_answer.specs.declared.find_answer.Answer.{Answer}
use Rattle.jx_answer.specs.Found.{IsAnswerTo}
use Rattle.jx_words.specs.inside.ReadPointers.{each_answer}
use Rattle.jx_report.specs.inside.IndexAnswers.{answer_of}
use Rattle.jx_report.proofs.PointerReplies.{answers_there}
use Rattle.jx_words.proofs.PointerSteps.{as_many}
use Rattle.jx_report.proofs.pointer_answers.answers_in_index.Goals as goal

pub answers_of-requires : goal.answers_of-requires
answers_of-requires g c =
    let spelt = map string_bytes c.args.pointers.now in
    let read = c.in_ok-read.read in
    let told = c.in-Ok.answered.items in
    let there : AllZip (IsAnswerTo c.args.index.now) read.pointers.items told =
    subst (λ (ps : List (List ℕ)). AllZip (IsAnswerTo c.args.index.now) ps told) c.deref.ensures.value c.in-Ok.ensures.answers in
    let same : length read.unread.items ≡ length told = as_many (IsAnswerTo c.args.index.now) spelt read.pointers.items read.unread.items told c.in_ok-read.ensures there in
    ap (λ (us : List (Option PointerFault)). length us) c.deref-2.ensures.value ∙ same ∙ sym (ap (λ (xs : List Answer). length xs) c.deref-3.ensures.value)

pub returns : goal.returns
returns g c =
    let spelt = map string_bytes c.args.pointers.now in
    let read = c.in_ok-read.read in
    let told = c.in-Ok.answered.items in
    let there : AllZip (IsAnswerTo c.args.index.now) read.pointers.items told =
    subst (λ (ps : List (List ℕ)). AllZip (IsAnswerTo c.args.index.now) ps told) c.deref.ensures.value c.in-Ok.ensures.answers in
    IfOk-weaker c.answers_of.result _ _
    (λ answers is. answers_there c.args.index.now spelt read.pointers.items read.unread.items told answers.items c.in_ok-read.ensures there
    (is
    ∙ ap (λ (us : List (Option PointerFault)). each_answer answer_of us c.deref-3.result.now) c.deref-2.ensures.value
    ∙ ap (λ (xs : List Answer). each_answer answer_of read.unread.items xs) c.deref-3.ensures.value))
    c.answers_of.ensures

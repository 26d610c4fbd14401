use Rattle.std.proofs.Common.{◌≡◌, List, ℕ, map, ap, subst, ◌∙◌}
use Rattle.std.specs.Prelude.{string_bytes, Option, Result}
use Rattle.std.proofs.lemmas.Result.{IfOk-at_ok}
use Rattle.jx_index.specs.declared.find_fault.FindFault.{FindFault}
use Rattle.jx_index.specs.declared.finder.Found.{Found}
use Rattle.jx_index.specs.declared.pointer.PointerFault.{PointerFault}
use Rattle.jx_index.specs.Found.{AreFoundIn}
use Rattle.jx_words.specs.inside.ReadPointers.{answer_in, each_answer}
use Rattle.jx_words.proofs.PointersFound.{are_answered}
use Rattle.jx_report.proofs.pointer_answers.answers_in_one_pass.Goals as goal

pub returns : goal.returns
returns c =
    let settings = c.args.settings.now in
    let text = c.args.text.now in
    let spelt = map string_bytes c.args.pointers.now in
    let read = c.in_ok-read.read in
    let found = c.in-Ok.found.items in
    let told = c.in_ok-answers-in-Ok.answers.items in
    let there : AreFoundIn settings text read.pointers.items found =
    subst (λ (ps : List (List ℕ)). AreFoundIn settings text ps found) c.deref.ensures.value (IfOk-at_ok _ c.in-Ok.is c.in_ok-refusal.ensures.found) in
    let items : told ≡ each_answer answer_in read.unread.items found =
    c.in_ok-answers-in-Ok.ensures
    ∙ ap (λ (us : List (Option PointerFault)). each_answer answer_in us c.deref-in-Ok-2.result.now) c.deref-in-Ok.ensures.value
    ∙ ap (λ (fs : List (Result Found FindFault)). each_answer answer_in read.unread.items fs) c.deref-in-Ok-2.ensures.value in
    (IfOk-at_ok _ c.in-Ok.is c.in_ok-refusal.ensures.accepted, are_answered c.rows_of_look_ups.ensures.led settings text spelt read.pointers.items read.unread.items found told c.in_ok-read.ensures there items)

use Rattle.std.proofs.Common.{◌≡◌, List, ap, ◌∙◌}
use Rattle.std.specs.Prelude.{Result}
use Rattle.std.proofs.lemmas.Result.{IfErr-at_err, IfOk-at_ok}
use Rattle.jx_index.specs.declared.find_fault.FindFault.{FindFault}
use Rattle.jx_index.specs.declared.finder.Found.{Found}
use Rattle.jx_words.specs.inside.ReadPointers.{answer_in, each_answer}
use Rattle.jx_words.proofs.PointersFound.{are_answered}
use Rattle.jx_values.proofs.value_reader.answers_of.Goals as goal

pub returns-in-Err : goal.returns-in-Err
returns-in-Err c = λ settings spelt pointers text read fed. IfErr-at_err _ c.in-Err.is c.in_ok-refusal.ensures.refused settings pointers text fed

pub returns-in_ok-answers-in-Ok : goal.returns-in_ok-answers-in-Ok
returns-in_ok-answers-in-Ok c = λ settings spelt pointers text read fed.
    let unread = c.args.unread.now in
    let found = c.in-Ok.found.items in
    let told = c.in_ok-answers-in-Ok.answers in
    let items : told.items ≡ each_answer answer_in unread found =
    c.in_ok-answers-in-Ok.ensures ∙ ap (λ (fs : List (Result Found FindFault)). each_answer answer_in unread fs) c.deref.ensures.value in (
      IfOk-at_ok _ c.in-Ok.is c.in_ok-refusal.ensures.accepted settings pointers text fed,
      are_answered c.rows_of_look_ups.ensures.led settings text spelt pointers unread found told.items read
          (IfOk-at_ok _ c.in-Ok.is c.in_ok-refusal.ensures.found settings pointers text fed) items,
    )

use Rattle.std.specs.Prelude.{map, string_bytes}
use Rattle.std.proofs.Common.{ap, ◌∙◌}
use Rattle.jx_words.specs.inside.ReadPointers.{answer_in, each_answer}
use Rattle.jx_words.proofs.PointersFound.{are_answered}
use Rattle.jx_cmd_index.proofs.answers.answers_of.Goals as goal

pub returns-clause-answers : goal.returns-clause-answers
returns-clause-answers g c = λ settings chunk text all is_index is tells.
    let unread = c.in_ok-pointers.field-0.unread.items in
    let pointers = c.in_ok-pointers.field-0.pointers.items in
    let found = c.in_ok-found.found.items in
    are_answered c.rows_of_look_ups.ensures.led settings text (map string_bytes c.args.spelt.now) pointers unread found c.in_ok-answers_in.field-0.items c.in_ok-pointers.ensures
    (c.in_ok-found.ensures.found settings chunk text all is_index is tells)
    (c.in_ok-answers_in.ensures ∙ ap (λ u. each_answer answer_in u c.deref-2.result.now) c.deref.ensures.value ∙ ap (λ f. each_answer answer_in unread f) c.deref-2.ensures.value)

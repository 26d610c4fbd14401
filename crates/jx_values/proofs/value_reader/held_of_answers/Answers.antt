use Rattle.std.proofs.Common.{◌≡◌, ℕ, List, map, ap, ◌∙◌}
use Rattle.std.specs.Prelude.{String, string_bytes}
use Rattle.std.specs.declared.alloc.Global.{Global}
use Rattle.jx_words.specs.declared.pointer_answer.PointerAnswer.{PointerAnswer}
use Rattle.jx_values.specs.Values.{told_lines}
use Rattle.jx_values.proofs.Holds.{holds_found}
use Rattle.jx_values.proofs.value_reader.held_of_answers.Goals as goal

pub returns : goal.returns
returns c = λ text v x all.
    let form = c.args.form in
    let task = c.args.task.now in
    let bytes = c.in_ok-gathered.gathered.text.items in
    let moved = c.in_ok-gathered.gathered.answers.items in
    let told : c.in_ok-told.told.items ≡ told_lines form bytes (map string_bytes task.pointers.items) moved =
    c.in_ok-told.ensures
    ∙ ap (λ (l : List ℕ). told_lines form l (map string_bytes c.deref-2.result.now) c.deref-3.result.now) c.deref.ensures.value
    ∙ ap (λ (ps : List (String Global)). told_lines form bytes (map string_bytes ps) c.deref-3.result.now) c.deref-2.ensures.value
    ∙ ap (λ (ms : List PointerAnswer). told_lines form bytes (map string_bytes task.pointers.items) ms) c.deref-3.ensures.value in
    holds_found form task text bytes c.args.answers.now moved c.in_ok-told.told.items v x (c.in_ok-gathered.ensures text all) told

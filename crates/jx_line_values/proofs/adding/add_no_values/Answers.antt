use Rattle.std.proofs.Common.{◌<◌, List, ℕ, [], length, get_or, refl, arith}
use Rattle.std.specs.Prelude.{string_bytes}
use Rattle.std.proofs.lemmas.List.{length-map}
use Rattle.jx_line_values.specs.LineValues.{none_word, pointers_of}
use Rattle.jx_line_values.proofs.Adds.{more_values}
use Rattle.jx_line_values.proofs.adding.add_no_values.Goals as goal

pub loop-place-preserved : goal.loop-place-preserved
loop-place-preserved c =
    let task = c.args.task.now in
    let spelt : List (List ℕ) = pointers_of task in
    let place = c.loop-place.place in
    let test = c.loop-place-test.true in
    let low : place < length spelt = omega (arith, test, length-map task.pointers.items string_bytes) in
    more_values task.form (λ (pointer : List ℕ). none_word task) spelt place (get_or spelt place []) [] c.loop-place.out.items c.add_next_none.new.out.items c.args.out.now.items low refl
    c.loop-place.invariant c.in_ok-add_next_none.ensures

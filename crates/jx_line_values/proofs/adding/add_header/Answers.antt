use Rattle.std.proofs.Common.{◌≡◌, ◌<◌, List, ℕ, length, map, subst, sym, arith}
use Rattle.std.specs.Prelude.{Some, String, slice_get, string_bytes}
use Rattle.std.specs.declared.alloc.Global.{Global}
use Rattle.std.proofs.lemmas.List.{length-map}
use Rattle.std.proofs.lemmas.Option.{get_or_from_slice_get}
use Rattle.jx_line_values.specs.Cells.{text_cell}
use Rattle.jx_line_values.specs.LineValues.{none_word, pointers_of}
use Rattle.jx_line_values.proofs.Adds.{more_values}
use Rattle.jx_line_values.proofs.adding.add_header.Goals as goal

pub loop-place-preserved : goal.loop-place-preserved
loop-place-preserved c =
    let task = c.args.task.now in
    let spelt : List (List ℕ) = pointers_of task in
    let place = c.loop-place.place in
    let one = c.spelt_at.result.now in
    let test = c.loop-place-test.true in
    let low : place < length spelt = omega (arith, test, length-map task.pointers.items string_bytes) in
    let there : slice_get spelt place ≡ Some one = subst (λ (words : List (String Global)). slice_get (map string_bytes words) place ≡ Some one) c.deref.ensures.value c.spelt_at.ensures in
    more_values task.form (text_cell task.form (none_word task)) spelt place one one c.loop-place.out.items c.add_next_pointer.new.out.items c.args.out.now.items low
    (sym (get_or_from_slice_get spelt place one one there)) c.loop-place.invariant c.in_ok-add_next_pointer.ensures

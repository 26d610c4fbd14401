use Rattle.std.proofs.Common.{◌<◌, length, map, sym, ◌∙◌, arith}
use Rattle.std.specs.Prelude.{string_bytes}
use Rattle.std.proofs.lemmas.List.{length-map}
use Rattle.std.proofs.lemmas.Option.{get_or_from_slice_get}
use Rattle.jx_line_values.proofs.Adds.{one_more_told}
use Rattle.jx_line_values.proofs.telling.add_all_found.Goals as goal

pub loop-place-preserved : goal.loop-place-preserved
loop-place-preserved c =
    let spelt = map string_bytes c.args.pointers.now in
    let found = c.args.found.now in
    let i = c.loop-place.place in
    let pointer = c.spelt_at.result.now in
    let one = c.found_at.result in
    let test = c.loop-place-test.true in
    let same = c.requires in
    let low : i < length spelt = omega (arith, test, same, length-map c.args.pointers.now string_bytes) in
    one_more_told c.args.form c.args.number c.args.line.now spelt found i pointer one c.loop-place.told.items c.add_found.new.told.items low test
    (sym (get_or_from_slice_get spelt i pointer pointer c.spelt_at.ensures)) (sym (get_or_from_slice_get found i one one c.found_at.ensures))
    c.in_ok-add_found.ensures
    ∙ c.loop-place.invariant

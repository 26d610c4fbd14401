use Rattle.std.proofs.Common.{◌<◌, length, map, sym, ◌∙◌, arith}
use Rattle.std.specs.Prelude.{string_bytes}
use Rattle.std.proofs.lemmas.List.{length-map}
use Rattle.std.proofs.lemmas.Option.{get_or_from_slice_get}
use Rattle.jx_values.proofs.Tells.{one_more}
use Rattle.jx_values.proofs.telling.told_of_answers.Goals as goal

pub loop-number-preserved : goal.loop-number-preserved
loop-number-preserved c =
    let spelt = map string_bytes c.args.pointers.now in
    let answers = c.args.answers.now in
    let i = c.loop-number.number in
    let pointer = c.pointer_at.result.now in
    let answer = c.answer_at.result in
    let low : i < length spelt = omega (arith, length-map c.args.pointers.now string_bytes) in
    one_more c.args.form c.args.text.now spelt answers i pointer answer c.loop-number.told.items c.add_told.new.told.items low c.loop-number-test.true
    (sym (get_or_from_slice_get spelt i pointer pointer c.pointer_at.ensures)) (sym (get_or_from_slice_get answers i answer answer c.answer_at.ensures))
    c.in_ok-add_told.ensures
    ∙ c.loop-number.invariant

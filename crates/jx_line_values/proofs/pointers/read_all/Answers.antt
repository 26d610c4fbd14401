use Rattle.std.proofs.Common.{◌<◌, List, ℕ, length, map, arith}
use Rattle.std.specs.Prelude.{string_bytes}
use Rattle.std.proofs.lemmas.List.{length-map}
use Rattle.jx_line_values.proofs.Spelt.{one_more_read}
use Rattle.jx_line_values.proofs.pointers.read_all.Goals as goal

pub loop-place-preserved : goal.loop-place-preserved
loop-place-preserved c =
    let spelt : List (List ℕ) = map string_bytes c.args.spelt.now in
    let test = c.loop-place-test.true in
    let low : c.loop-place.place < length spelt = omega (arith, test, length-map c.args.spelt.now string_bytes) in
    one_more_read spelt c.loop-place.place c.spelt_at.result.now low c.spelt_at.ensures c.loop-place.pointers.items c.push.new.self.items c.read_one.result c.loop-place.invariant
    c.in_ok-push.ensures.items c.read_one.ensures

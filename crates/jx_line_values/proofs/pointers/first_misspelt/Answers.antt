use Rattle.std.proofs.Common.{◌<◌, ◌≤◌, List, ℕ, length, map, arith}
use Rattle.std.specs.Prelude.{string_bytes}
use Rattle.std.proofs.lemmas.List.{length-map}
use Rattle.jx_line_values.proofs.Spelt.{all_of, one_more}
use Rattle.jx_line_values.proofs.pointers.first_misspelt.Goals as goal

pub loop-place-preserved : goal.loop-place-preserved
loop-place-preserved c =
    let spelt : List (List ℕ) = map string_bytes c.args.pointers.now in
    let test = c.loop-place-test.true in
    let low : c.loop-place.place < length spelt = omega (arith, test, length-map c.args.pointers.now string_bytes) in
    one_more spelt c.loop-place.place c.spelt_at-word.result.now low c.spelt_at-word.ensures c.in_default.ensures.none c.loop-place.invariant

pub returns-clause-none : goal.returns-clause-none
returns-clause-none c =
    let spelt : List (List ℕ) = map string_bytes c.args.pointers.now in
    let test = c.loop-place-test.false in
    let high : length spelt ≤ c.loop-place.place = omega (arith, test, length-map c.args.pointers.now string_bytes) in
    all_of spelt c.loop-place.place high c.loop-place.invariant

use Rattle.std.proofs.Common.{arith, ap, ◌∙◌, refl, sym, ◌-◌, ℕ, List, length, take}
use Rattle.std.proofs.lemmas.List.{length-take-le}
use Rattle.jx_edit.specs.inside.Chunks.{text_of}
use Rattle.jx_edit.specs.Positions.{first, position_behind}
use Rattle.jx_edit.proofs.Seeking.{joined_fits, more_here, part_within, there_end, there_in, IsHere}
use Rattle.jx_edit.proofs.Texts.{next_fits, next_is}
use Rattle.jx_edit.proofs.positions.seek.position_in.Goals as goal

pub joined-requires : goal.joined-requires
joined-requires c =
    let cs = c.args.chunks.now in
    let k = c.loop-place.place in
    let xs = c.bytes-bytes.result.now in
    let ys = take (c.args.at - c.loop-place.before) xs in
    let here : IsHere cs k c.loop-place.before c.index-chunks-place.result xs =
    record { within = c.loop-place-test.true; chunk = c.index-chunks-place.is; bytes = c.bytes-bytes.ensures; long = c.loop-place.invariant.long } in
    let moves = c.position_behind.ensures ∙ ap (λ (t : List ℕ). position_behind c.args.encoding first (take (c.args.at - c.loop-place.before) t)) (sym c.bytes-bytes.ensures) in
    joined_fits c.args.encoding c.args.from c.loop-place.position c.position_behind.result (text_of (take k cs)) ys (length (text_of cs)) c.loop-place.invariant.is moves
    (part_within cs k c.loop-place.before c.index-chunks-place.result xs ys here (omega (arith, length-take-le (c.args.at - c.loop-place.before) xs (omega arith))))
    c.requires.lines c.requires.characters

pub joined-position-requires : goal.joined-position-requires
joined-position-requires c =
    let cs = c.args.chunks.now in
    let k = c.loop-place.place in
    let xs = c.bytes-bytes.result.now in
    let x = c.index-chunks-place.result in
    let here : IsHere cs k c.loop-place.before x xs =
    record { within = c.loop-place-test.true; chunk = c.index-chunks-place.is; bytes = c.bytes-bytes.ensures; long = c.loop-place.invariant.long } in
    joined_fits c.args.encoding c.args.from c.loop-place.position c.moves.result (text_of (take k cs)) x.bytes (length (text_of cs)) c.loop-place.invariant.is c.moves.ensures
    (part_within cs k c.loop-place.before x xs x.bytes here (omega (arith, ap length c.bytes-bytes.ensures)))
    c.requires.lines c.requires.characters

pub overflow_add-before : goal.overflow_add-before
overflow_add-before c =
    omega (arith, next_fits c.args.chunks.now c.loop-place.place c.loop-place.before c.index-chunks-place.result c.bytes-bytes.result.now c.loop-place-test.true c.index-chunks-place.is c.bytes-bytes.ensures c.loop-place.invariant.long (omega arith))

pub loop-place-preserved : goal.loop-place-preserved
loop-place-preserved c = record {
  is =
      c.joined-position.ensures
      ∙ more_here c.args.encoding c.args.from c.loop-place.position c.moves.result c.args.chunks.now c.loop-place.place c.loop-place.before c.index-chunks-place.result c.bytes-bytes.result.now
      (record { within = c.loop-place-test.true; chunk = c.index-chunks-place.is; bytes = c.bytes-bytes.ensures; long = c.loop-place.invariant.long })
      c.loop-place.invariant.is c.moves.ensures;
  long =
      next_is c.args.chunks.now c.loop-place.place c.loop-place.before c.index-chunks-place.result c.bytes-bytes.result.now c.loop-place-test.true c.index-chunks-place.is c.bytes-bytes.ensures
      c.loop-place.invariant.long;
  low = omega arith;
}

pub returns-then-here-bytes : goal.returns-then-here-bytes
returns-then-here-bytes c =
    c.joined.ensures
    ∙ there_in c.args.encoding c.args.from c.loop-place.position c.position_behind.result c.args.chunks.now c.loop-place.place c.loop-place.before c.args.at c.index-chunks-place.result c.bytes-bytes.result.now
    (take (c.args.at - c.loop-place.before) c.bytes-bytes.result.now)
    (record { within = c.loop-place-test.true; chunk = c.index-chunks-place.is; bytes = c.bytes-bytes.ensures; long = c.loop-place.invariant.long })
    c.loop-place.invariant.low (omega arith) c.loop-place.invariant.is refl
    (c.position_behind.ensures ∙ ap (λ (t : List ℕ). position_behind c.args.encoding first (take (c.args.at - c.loop-place.before) t)) (sym c.bytes-bytes.ensures))

pub returns : goal.returns
returns c =
    there_end c.args.encoding c.args.from c.loop-place.position c.args.chunks.now c.loop-place.place c.loop-place.before c.args.at c.loop-place-test.false c.loop-place.invariant.long
    c.loop-place.invariant.low c.loop-place.invariant.is

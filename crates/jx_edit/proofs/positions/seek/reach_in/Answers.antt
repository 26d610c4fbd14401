use Rattle.std.proofs.Common.{arith, refl, sym, ◌∙◌, length, take, ◌+◌}
use Rattle.jx_edit.specs.inside.Chunks.{text_of}
use Rattle.jx_edit.proofs.Seeking.{here_fits, joined_fits, part_within, sought_end, sought_here, sought_more, sought_none, sought_position, there_end, IsHere}
use Rattle.jx_edit.proofs.Texts.{text_within}
use Rattle.jx_edit.proofs.positions.seek.reach_in.Goals as goal

pub loop-place-init : goal.loop-place-init
loop-place-init c = sought_none c.args.encoding c.args.from c.args.to c.args.chunks.now

pub joined-next-requires : goal.joined-next-requires
joined-next-requires c =
    let cs = c.args.chunks.now in
    let k = c.loop-place.place in
    let x = c.index-chunks-place.result in
    let here : IsHere cs k c.loop-place.before x x.bytes = record { within = c.loop-place-test.true; chunk = c.index-chunks-place.is; bytes = refl; long = c.loop-place.invariant.long } in
    joined_fits c.args.encoding c.args.from c.loop-place.position c.moves.result (text_of (take k cs)) x.bytes (length (text_of cs)) c.loop-place.invariant.position c.moves.ensures
    (part_within cs k c.loop-place.before x x.bytes x.bytes here (omega arith)) c.requires.lines c.requires.characters

pub reach-here-requires-clause-lines : goal.reach-here-requires-clause-lines
reach-here-requires-clause-lines c =
    (here_fits c.args.encoding c.args.from c.loop-place.position c.args.chunks.now c.loop-place.place c.loop-place.before c.index-chunks-place.result c.index-chunks-place.result.bytes
    (record { within = c.loop-place-test.true; chunk = c.index-chunks-place.is; bytes = refl; long = c.loop-place.invariant.long })
    c.loop-place.invariant.position c.requires.lines c.requires.characters).0

pub reach-here-requires-clause-characters : goal.reach-here-requires-clause-characters
reach-here-requires-clause-characters c =
    (here_fits c.args.encoding c.args.from c.loop-place.position c.args.chunks.now c.loop-place.place c.loop-place.before c.index-chunks-place.result c.index-chunks-place.result.bytes
    (record { within = c.loop-place-test.true; chunk = c.index-chunks-place.is; bytes = refl; long = c.loop-place.invariant.long })
    c.loop-place.invariant.position c.requires.lines c.requires.characters).1

pub overflow_add-result : goal.overflow_add-result
overflow_add-result c =
    let xs = c.index-chunks-place.result.bytes in
    let here : IsHere c.args.chunks.now c.loop-place.place c.loop-place.before c.index-chunks-place.result xs =
    record { within = c.loop-place-test.true; chunk = c.index-chunks-place.is; bytes = refl; long = c.loop-place.invariant.long } in
    omega (arith, part_within c.args.chunks.now c.loop-place.place c.loop-place.before c.index-chunks-place.result xs xs here (omega arith), c.loop-place.invariant.long, c.reach-here.ensures.within, c.requires.lines)

pub overflow_add-before : goal.overflow_add-before
overflow_add-before c =
    let xs = c.bytes.result.now in
    let here : IsHere c.args.chunks.now c.loop-place.place c.loop-place.before c.index-chunks-place.result xs =
    record { within = c.loop-place-test.true; chunk = c.index-chunks-place.is; bytes = c.bytes.ensures; long = c.loop-place.invariant.long } in
    omega (arith, part_within c.args.chunks.now c.loop-place.place c.loop-place.before c.index-chunks-place.result xs xs here (omega arith), c.loop-place.invariant.long, c.requires.lines)

pub loop-place-preserved : goal.loop-place-preserved
loop-place-preserved c =
    sought_more c.args.encoding c.args.from c.args.to c.loop-place.position c.joined-next.result c.moves.result c.args.chunks.now c.loop-place.place c.loop-place.before
    (c.loop-place.before + length c.bytes.result.now) c.index-chunks-place.result c.bytes.result.now
    (record { within = c.loop-place-test.true; chunk = c.index-chunks-place.is; bytes = c.bytes.ensures; long = c.loop-place.invariant.long })
    c.loop-place.invariant c.moves.ensures c.joined-next.ensures (sym c.is_behind.ensures ∙ c.if-is_behind.false) refl

pub returns-then-is_behind-clause-count : goal.returns-then-is_behind-clause-count
returns-then-is_behind-clause-count c =
    sought_here c.args.encoding c.args.from c.args.to c.loop-place.position c.joined-next.result c.moves.result c.args.chunks.now c.loop-place.place c.loop-place.before c.reach-here.result.count
    c.index-chunks-place.result c.index-chunks-place.result.bytes
    (record { within = c.loop-place-test.true; chunk = c.index-chunks-place.is; bytes = refl; long = c.loop-place.invariant.long })
    c.loop-place.invariant c.moves.ensures c.joined-next.ensures (sym c.is_behind.ensures ∙ c.if-is_behind.true) c.reach-here.ensures.count

pub returns-then-is_behind-clause-within : goal.returns-then-is_behind-clause-within
returns-then-is_behind-clause-within c =
    let xs = c.index-chunks-place.result.bytes in
    let here : IsHere c.args.chunks.now c.loop-place.place c.loop-place.before c.index-chunks-place.result xs =
    record { within = c.loop-place-test.true; chunk = c.index-chunks-place.is; bytes = refl; long = c.loop-place.invariant.long } in
    omega (arith, part_within c.args.chunks.now c.loop-place.place c.loop-place.before c.index-chunks-place.result xs xs here (omega arith), c.loop-place.invariant.long, c.reach-here.ensures.within)

pub returns-then-is_behind-clause-position : goal.returns-then-is_behind-clause-position
returns-then-is_behind-clause-position c =
    sought_position c.args.encoding c.args.from c.args.to c.loop-place.position c.reach-here.result.position c.args.chunks.now c.loop-place.place c.loop-place.before c.reach-here.result.count
    c.index-chunks-place.result c.index-chunks-place.result.bytes
    (record { within = c.loop-place-test.true; chunk = c.index-chunks-place.is; bytes = refl; long = c.loop-place.invariant.long })
    c.loop-place.invariant c.reach-here.ensures.within c.reach-here.ensures.position

pub returns-clause-count : goal.returns-clause-count
returns-clause-count c =
    sought_end c.args.encoding c.args.from c.args.to c.loop-place.position c.args.chunks.now c.loop-place.place c.loop-place.before c.loop-place-test.false c.loop-place.invariant

pub returns-clause-within : goal.returns-clause-within
returns-clause-within c = omega (arith, text_within c.args.chunks.now c.loop-place.place, c.loop-place.invariant.long)

pub returns-clause-position : goal.returns-clause-position
returns-clause-position c =
    there_end c.args.encoding c.args.from c.loop-place.position c.args.chunks.now c.loop-place.place c.loop-place.before c.loop-place.before c.loop-place-test.false c.loop-place.invariant.long
    (omega arith) c.loop-place.invariant.position

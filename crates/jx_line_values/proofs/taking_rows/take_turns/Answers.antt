use Rattle.std.proofs.Common.{sym}
use Rattle.std.proofs.lemmas.Option.{get_or_from_slice_get}
use Rattle.jx_line_values.proofs.PartRows.{all_taken, one_taken}
use Rattle.jx_line_values.proofs.taking_rows.take_turns.Goals as goal

pub loop-number-preserved : goal.loop-number-preserved
loop-number-preserved c = λ bytes front given said ts h.
    let turns = c.args.turns.now in
    let i = c.loop-number.number in
    let turn = c.turn_at.result.now in
    one_taken c.args.task.now bytes front given said turns i turn turn c.loop-number.cutter c.take_turn.new.cutter c.loop-number-test.true
    (sym (get_or_from_slice_get turns i turn turn c.turn_at.ensures)) (c.loop-number.invariant bytes front given said ts h)
    (λ before mine t was. c.in_ok-take_turn.ensures before mine given said t was)

pub returns : goal.returns
returns c = λ bytes front given said ts h.
    all_taken c.args.task.now bytes front given said c.args.turns.now c.loop-number.number c.loop-number.cutter c.loop-number-test.false (c.loop-number.invariant bytes front given said ts h)

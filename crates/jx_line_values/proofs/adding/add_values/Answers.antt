use Rattle.std.proofs.Common.{sym}
use Rattle.std.proofs.lemmas.Option.{get_or_from_slice_get}
use Rattle.jx_line_values.specs.LineValues.{value_bytes}
use Rattle.jx_line_values.proofs.Adds.{more_values}
use Rattle.jx_line_values.proofs.adding.add_values.Goals as goal

pub loop-place-preserved : goal.loop-place-preserved
loop-place-preserved c =
    let found = c.args.found.now in
    let place = c.loop-place.place in
    let one = c.found_at.result in
    more_values c.args.task.now.form (value_bytes c.args.task.now c.args.line.now) found place one one c.loop-place.out.items c.add_next.new.out.items c.args.out.now.items c.loop-place-test.true
    (sym (get_or_from_slice_get found place one one c.found_at.ensures)) c.loop-place.invariant c.in_ok-add_next.ensures

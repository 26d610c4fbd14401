use Rattle.std.proofs.Common.{◌≡◌, arith}
use Rattle.jx_file_query.specs.Cuts.{cuts_of}
use Rattle.jx_file_query.proofs.SplitPassings.{joined_low, passed_in_part, passed_inside, some_joined}
use Rattle.jx_file_query.proofs.split_passing.pass.Goals.{else-sum-held-2-via-then-sum-held-2+else-not-is_in_part, else-sum-held-2-via-else-sum-held-2}
use Rattle.jx_file_query.proofs.split_passing.pass.Goals as goal

pub returns : goal.returns
returns c =
    let held = cuts_of c.args.held.now in
    let some = c.if-not-held.false in
    let none = c.if-held-ne0.false in
    let far = c.if-span-aim.false in
    let low = c.if-sum-held.false in
    some_joined c.args.aim c.args.span held c.args.sum c.join.result c.join.ensures
    (elim c.else-sum-held-2.branch [
      | else-sum-held-2-via-then-sum-held-2+else-not-is_in_part w ↦ passed_in_part c.args.aim c.args.span far held c.args.sum some none w.if-sum-held-2.true (joined_low held.sum c.args.sum none low) (w.is_in_part.ensures w.if-not-is_in_part.false)
      | else-sum-held-2-via-else-sum-held-2 w ↦ passed_inside c.args.aim c.args.span far held c.args.sum some none (let other = w.if-sum-held-2.false in omega (arith, low, other))
    ])

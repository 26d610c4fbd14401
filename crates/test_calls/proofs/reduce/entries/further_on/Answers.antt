use Rattle.std.proofs.Common.{◌^◌, ◌-◌, arith}
use Rattle.test_calls.proofs.Marks.{each_below}
use Rattle.test_calls.proofs.reduce.entries.further_on.Goals as goal

pub shifted-requires : goal.shifted-requires
shifted-requires c =
    record { fits = c.in_ok-near.ensures.offsets 0 (2 ^ 64 - c.args.by) (each_below (2 ^ 32) (2 ^ 64 - c.args.by) c.args.marks.now (omega (arith, c.requires.near)) c.requires.low) }

use Rattle.std.proofs.Common.{◌++◌}
use Rattle.jx_c.proofs.Records.{put_in, too_long, written}
use Rattle.jx_c.proofs.runs.jx_run_join.Goals as goal

pub returns-in-Ok-clause-written : goal.returns-in-Ok-clause-written
returns-in-Ok-clause-written c xs ys from other depth left right ok =
    written (xs ++ ys) from depth c.in-Ok.record.items c.deref.result.now c.args.run.now c.put.new.run c.put.new.size c.deref.ensures.value (c.in-Ok.ensures.of xs ys from other depth left right) c.put.ensures.size (c.put.ensures.put ok)

pub returns-in-Ok-clause-room : goal.returns-in-Ok-clause-room
returns-in-Ok-clause-room c xs ys from other depth left right full =
    too_long (xs ++ ys) from depth c.in-Ok.record.items c.deref.result.now c.args.run.now c.put.new.size c.deref.ensures.value (c.in-Ok.ensures.of xs ys from other depth left right) c.put.ensures.size (c.put.ensures.room full)

pub returns-in-Ok-clause-status : goal.returns-in-Ok-clause-status
returns-in-Ok-clause-status c = put_in c.args.left.now c.args.right.now c.put.result c.in-Ok.ensures.runs c.put.ensures.status

use Rattle.std.proofs.Common.{◌-◌, ◌<◌, ◌^◌}
use Rattle.jx_book.specs.Runs.{run_len}
use Rattle.jx_book.specs.Worked.{HandedOver, Within}
use Rattle.jx_book.proofs.workers.worker.hand_over.Given as goal

abbrev pub invariant-loop-mine : goal.invariant-loop-mine
invariant-loop-mine g l = record {
  filled : l.run.span.start < l.run.span.end;
  within : Within l.initial.run.span l.run.span;
  left : HandedOver (run_len l.initial.run) l.initial.share l.share (run_len l.run);
}

abbrev pub decreases-loop-mine : goal.decreases-loop-mine
decreases-loop-mine g l = 2 ^ 64 - run_len l.run

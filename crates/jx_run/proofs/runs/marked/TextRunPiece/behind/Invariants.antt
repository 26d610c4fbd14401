use Rattle.std.proofs.Common.{◌<◌, ◌≤◌, ◌-◌}
use Rattle.jx_run.specs.SeqRun.{IsReading}
use Rattle.jx_run.proofs.SeqReading.{IsReadTo, rest_at}
use Rattle.jx_run.proofs.runs.marked.TextRunPiece.behind.Given as goal

abbrev pub invariant-loop-at : goal.invariant-loop-at
invariant-loop-at l = record {
  marked : 0 < l.from;
  within : l.from ≤ l.end;
  read : IsReadTo (IsReading l.depth) (rest_at l.text l.fn.start l.end) (rest_at l.text l.from l.end) l.done.items;
}

abbrev pub decreases-loop-at : goal.decreases-loop-at
decreases-loop-at l = l.end - l.from

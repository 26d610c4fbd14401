use Rattle.std.proofs.Common.{◌≡◌, ◌<◌, ◌≤◌, ◌-◌}
use Rattle.jx_run.specs.ElementVerdict.{IsJudgedElement}
use Rattle.jx_run.proofs.SeqReading.{IsReadTo, rest_at}
use Rattle.jx_run.proofs.sequences.marked_elements.PartRunPiece.behind.Given as goal

abbrev pub invariant-loop-at : goal.invariant-loop-at
invariant-loop-at l = record {
  marked : 0 < l.from;
  within : l.from ≤ l.end;
  depth : l.stack.depth ≡ l.depth;
  read : IsReadTo (IsJudgedElement l.depth) (rest_at l.text l.fn.start l.end) (rest_at l.text l.from l.end) l.done.items;
}

abbrev pub decreases-loop-at : goal.decreases-loop-at
decreases-loop-at l = l.end - l.from

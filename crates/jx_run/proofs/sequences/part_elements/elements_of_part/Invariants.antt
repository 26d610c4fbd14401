use Rattle.std.proofs.Common.{◌≡◌, ◌<◌, ◌≤◌, ◌-◌, length}
use Rattle.jx_run.proofs.PlacedElements.{IsPlaced}
use Rattle.jx_run.proofs.SeqReading.{IsReadTo, rest_at}
use Rattle.jx_run.proofs.sequences.part_elements.elements_of_part.Given as goal

abbrev pub invariant-loop-at : goal.invariant-loop-at
invariant-loop-at l = record {
  marked : 0 < l.from;
  within : l.from ≤ length l.part;
  depth : l.stack.depth ≡ l.fn.depth;
  read : IsReadTo (IsPlaced l.fn.depth l.before) (rest_at l.part 1 (length l.part)) (rest_at l.part l.from (length l.part)) l.judged.items;
}

abbrev pub decreases-loop-at : goal.decreases-loop-at
decreases-loop-at l = length l.part - l.from

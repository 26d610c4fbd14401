-- The reader went on with the text up to what is done.
use Rattle.std.proofs.Common.{◌-◌, length}
use Rattle.jx_run.specs.Reader.{HasFailed}
use Rattle.jx_answer.specs.inside.Pieces.{GoesOnTo}
use Rattle.jx_answer.proofs.batches.asking.read_pieces.Given as goal

abbrev pub invariant-loop-done : goal.invariant-loop-done
invariant-loop-done g l = record {
  on : GoesOnTo l.text l.done l.initial.reader l.reader;
  failed : HasFailed l.initial.reader → HasFailed l.reader;
}

abbrev pub decreases-loop-done : goal.decreases-loop-done
decreases-loop-done g l = length l.text - l.done

-- Each span so far stands in order within the bytes.
use Rattle.std.proofs.Common.{◌≤◌}
use Rattle.std.specs.Prelude.{All}
use Rattle.jx_each_batch.proofs.sections.spans_of.Given as goal

abbrev pub invariant-loop-end : goal.invariant-loop-end
invariant-loop-end l = record {
  within : l.end ≤ l.fn.len;
  spans : All (λ s. (s.start ≤ s.end) × (s.end ≤ l.fn.len)) l.spans.items;
}

abbrev pub decreases-loop-end : goal.decreases-loop-end
decreases-loop-end l = l.end

-- What was found so far stands within the bytes.
use Rattle.std.proofs.Common.{◌≤◌, length}
use Rattle.std.specs.Prelude.{IfSome}
use Rattle.jx_each_batch.proofs.border.behind_low_comma.Given as goal

abbrev pub invariant-loop-at : goal.invariant-loop-at
invariant-loop-at l = record {
  found : IfSome l.found (λ end. end ≤ length l.bytes);
}

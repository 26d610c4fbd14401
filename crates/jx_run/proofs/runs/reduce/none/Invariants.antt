use Rattle.std.proofs.Common.{◌≡◌, All, length, None}
use Rattle.jx_run.proofs.runs.reduce.none.Given as goal

abbrev pub invariant-loop : goal.invariant-loop
invariant-loop g l = record {
  many : length l.places.items ≡ l.counter;
  none : All (λ x. x ≡ None) l.places.items;
}

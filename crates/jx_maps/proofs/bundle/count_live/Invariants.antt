use Rattle.std.proofs.Common.{◌≡◌, ◌≤◌, take, count_by}
use Rattle.jx_maps.specs.inside.Bundle.{is_live}
use Rattle.jx_maps.proofs.bundle.count_live.Given as goal

abbrev pub invariant-loop-state : goal.invariant-loop-state
invariant-loop-state l = record {
  same : l.count ≡ count_by (is_live l.live) (take l.state-index l.state-items);
  low : l.count ≤ l.state-index;
}

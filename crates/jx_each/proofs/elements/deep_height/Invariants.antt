-- Two containers or more are open in front of each byte so far, and so many behind them.
use Rattle.std.proofs.Common.{◌≡◌, ℕ, ◌+◌, ◌-◌, ◌<◌, ◌≤◌}
use Rattle.std.specs.Simd.Lanes.{chunk}
use Rattle.jx_each.specs.inside.Deep.{height_at}
use Rattle.jx_each.proofs.elements.deep_height.Given as goal

abbrev pub invariant-loop-at : goal.invariant-loop-at
invariant-loop-at l = record {
  within : l.at ≤ 64;
  tall : 1 < l.high;
  most : l.high ≤ l.height + l.at;
  before : (k : ℕ) → k < l.at → 1 < height_at (chunk l.view.base 64 l.bytes) l.view.inside l.view.words l.height k;
  here : height_at (chunk l.view.base 64 l.bytes) l.view.inside l.view.words l.height l.at ≡ l.high;
}

abbrev pub decreases-loop-at : goal.decreases-loop-at
decreases-loop-at l = 64 - l.at

-- The elements before a byte are ended, and the bytes from there on lie behind them as they were copied.
use Rattle.std.proofs.Common.{◌≡◌, ◌+◌, ◌-◌, ◌≤◌, length}
use Rattle.std.specs.Prelude.{slice_range}
use Rattle.jx_each.specs.inside.Blocks.{place_at}
use Rattle.jx_each.specs.inside.Stretches.{IsLed}
use Rattle.jx_each.proofs.Ending.{Lies, made_at}
use Rattle.jx_each.proofs.elements.end_elements.Given as goal

abbrev pub invariant-loop-at : goal.invariant-loop-at
invariant-loop-at l = record {
  low : l.from ≤ l.at;
  within : l.at ≤ l.to;
  same : length l.made ≡ length l.initial.made;
  lies : Lies l.made l.bytes l.view.base l.at l.to;
  begin : l.nest.begin ≤ length l.made - (l.to - l.at);
  high : 1 ≤ l.nest.height;
  most : l.nest.height ≤ l.initial.nest.height + (l.at - l.from);
  led : IsLed (place_at l.view.inside l.view.words l.from) l.initial.nest (made_at l.initial.made l.from l.to) (slice_range l.bytes (l.view.base + l.from) (l.view.base + l.at))
      (place_at l.view.inside l.view.words l.at) l.nest (made_at l.made l.at l.to);
}

abbrev pub decreases-loop-at : goal.decreases-loop-at
decreases-loop-at l = l.to - l.at

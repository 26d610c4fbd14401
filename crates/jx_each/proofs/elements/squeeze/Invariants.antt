-- The bytes so far lead to what is made, which is no longer than they are.
use Rattle.std.proofs.Common.{◌≡◌, ◌+◌, ◌-◌, ◌≤◌, length, take}
use Rattle.std.specs.Prelude.{slice_range}
use Rattle.jx_each.specs.inside.Blocks.{place_at}
use Rattle.jx_each.specs.inside.Stretches.{IsLed}
use Rattle.jx_each.proofs.elements.squeeze.Given as goal

abbrev pub invariant-loop-at : goal.invariant-loop-at
invariant-loop-at l = record {
  within : l.at ≤ l.view.words.len;
  low : l.start ≤ l.len;
  short : l.len ≤ l.start + l.at;
  same : length l.made ≡ length l.initial.made;
  begin : l.nest.begin ≤ l.len;
  high : 1 ≤ l.nest.height;
  most : l.nest.height ≤ l.initial.nest.height + l.at;
  led : IsLed (place_at l.view.inside l.view.words 0) l.initial.nest (take l.start l.initial.made) (slice_range l.bytes l.view.base (l.view.base + l.at)) (place_at l.view.inside l.view.words l.at) l.nest (take l.len l.made);
}

abbrev pub decreases-loop-at : goal.decreases-loop-at
decreases-loop-at l = l.view.words.len - l.at

-- The bytes so far lead to what is made, which is no longer than they are.
use Rattle.std.proofs.Common.{◌≡◌, ◌+◌, ◌-◌, ◌≤◌, length, take}
use Rattle.std.specs.Prelude.{slice_range}
use Rattle.std.specs.Simd.Lanes.{chunk}
use Rattle.jx_each.specs.inside.Blocks.{place_at}
use Rattle.jx_each.specs.inside.Deep.{height_at}
use Rattle.jx_each.specs.inside.Stretches.{IsLed}
use Rattle.jx_each.proofs.elements.pack.Given as goal

abbrev pub invariant-loop-at : goal.invariant-loop-at
invariant-loop-at l = record {
  within : l.at ≤ 64;
  low : l.start ≤ l.len;
  short : l.len ≤ l.start + l.at;
  same : length l.made ≡ length l.initial.made;
  led : IsLed (place_at l.view.inside l.view.words 0) l.nest (take l.start l.initial.made) (slice_range l.bytes l.view.base (l.view.base + l.at)) (place_at l.view.inside l.view.words l.at)
      (record { begin = l.nest.begin; height = height_at (chunk l.view.base 64 l.bytes) l.view.inside l.view.words l.nest.height l.at }) (take l.len l.made);
}

abbrev pub decreases-loop-at : goal.decreases-loop-at
decreases-loop-at l = 64 - l.at

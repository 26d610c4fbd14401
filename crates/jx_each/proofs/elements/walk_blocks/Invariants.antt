-- The bytes so far lead to what is made.
use Rattle.std.proofs.Common.{◌+◌, ◌-◌, ◌≤◌, length}
use Rattle.std.specs.Prelude.{slice_range}
use Rattle.jx_each.specs.inside.Stretches.{IsLed}
use Rattle.jx_each.proofs.elements.walk_blocks.Given as goal

abbrev pub invariant-loop-front : goal.invariant-loop-front
invariant-loop-front l = record {
  low : l.fn.from.end ≤ l.front.end;
  within : l.front.end ≤ length l.bytes;
  begin : l.front.nest.begin ≤ length l.lines.items;
  high : 1 ≤ l.front.nest.height;
  most : l.front.nest.height ≤ l.fn.from.nest.height + (l.front.end - l.fn.from.end);
  led : IsLed l.fn.from.place l.fn.from.nest l.initial.lines.items (slice_range l.bytes l.fn.from.end l.front.end) l.front.place l.front.nest l.lines.items;
}

abbrev pub decreases-loop-front : goal.decreases-loop-front
decreases-loop-front l = length l.bytes - l.front.end

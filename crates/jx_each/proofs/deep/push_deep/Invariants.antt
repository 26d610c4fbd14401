-- The bytes so far are walked over.
use Rattle.std.proofs.Common.{length, ◌+◌, ◌-◌, ◌≤◌}
use Rattle.jx_each.specs.inside.Stretches.{IsWalked}
use Rattle.jx_each.proofs.deep.push_deep.Given as goal

abbrev pub invariant-loop-inside : goal.invariant-loop-inside
invariant-loop-inside l = record {
  order : l.walk.start ≤ l.walk.end;
  low : l.from ≤ l.walk.end;
  within : l.walk.end ≤ length l.bytes;
  high : l.walk.height ≤ l.fn.height + (l.walk.end - l.from);
  walked : IsWalked l.takes l.bytes (record { start = l.from; end = l.from; place = l.fn.place; height = l.fn.height }) l.initial.part.items l.walk l.part.items;
}

abbrev pub decreases-loop-inside : goal.decreases-loop-inside
decreases-loop-inside l = length l.bytes - l.walk.end

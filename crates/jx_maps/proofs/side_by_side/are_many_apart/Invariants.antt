use Rattle.std.proofs.Common.{◌≤◌, take}
use Rattle.jx_maps.proofs.SideBySide.{Apart}
use Rattle.jx_maps.proofs.side_by_side.are_many_apart.Given as goal

-- the states of the first segments, each once
abbrev pub invariant-loop-i : goal.invariant-loop-i
invariant-loop-i l = record {
  apart : Apart l.seen (take l.i l.segments);
  few : l.standing ≤ l.i;
}

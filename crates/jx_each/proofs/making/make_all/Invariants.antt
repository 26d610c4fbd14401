-- What is made so far, and what the rest makes, are all.
use Rattle.std.proofs.Common.{◌≡◌, ◌+◌, ◌-◌, ◌≤◌, drop, length}
use Rattle.jx_each.specs.Machine.{run}
use Rattle.jx_each.specs.inside.Paths.{aim_of, count_in}
use Rattle.jx_each.proofs.making.make_all.Given as goal

abbrev pub invariant-loop-at : goal.invariant-loop-at
invariant-loop-at l = record {
  within : l.at ≤ length l.bytes;
  height : l.stand.height ≤ l.initial.stand.height + l.at;
  count : count_in l.stand.stage ≤ count_in l.initial.stand.stage + l.at;
  made : run (aim_of l.target) (record { stand = l.stand; lines = l.lines.items; part = l.part.items }) (drop l.at l.bytes)
      ≡ run (aim_of l.target) (record { stand = l.initial.stand; lines = l.initial.lines.items; part = l.initial.part.items }) l.initial.bytes;
}

abbrev pub decreases-loop-at : goal.decreases-loop-at
decreases-loop-at l = length l.bytes - l.at

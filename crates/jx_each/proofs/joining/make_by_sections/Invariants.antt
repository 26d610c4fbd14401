-- What is made so far, and what the rest makes, are all.
use Rattle.std.proofs.Common.{◌≡◌, ◌+◌, ◌≤◌, drop, length, vec_len}
use Rattle.std.specs.Prelude.{All, IfSome}
use Rattle.jx_each.specs.Machine.{run}
use Rattle.jx_each.specs.inside.Paths.{aim_of, count_in}
use Rattle.jx_each.specs.inside.Fronted.{IsFronted}
use Rattle.jx_each.proofs.joining.make_by_sections.Given as goal

abbrev pub invariant-loop-section : goal.invariant-loop-section
invariant-loop-section l = record {
  within : l.reached.at ≤ length l.bytes;
  height : l.reached.stand.height ≤ l.fn.stand.height + l.reached.at;
  count : count_in l.reached.stand.stage ≤ count_in l.fn.stand.stage + l.reached.at;
  rest : All (λ s. IfSome s (IsFronted (aim_of l.target) l.bytes)) l.sections.items;
  made : run (aim_of l.target) (record { stand = l.reached.stand; lines = l.lines.items; part = l.part.items }) (drop l.reached.at l.bytes)
      ≡ run (aim_of l.target) (record { stand = l.fn.stand; lines = l.initial.lines.items; part = l.initial.part.items }) l.initial.bytes;
}

abbrev pub decreases-loop-section : goal.decreases-loop-section
decreases-loop-section l = vec_len l.sections

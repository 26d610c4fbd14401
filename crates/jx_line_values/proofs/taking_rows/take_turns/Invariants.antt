-- The turns before this one were taken.
use Rattle.std.proofs.Common.{List, ℕ, drop}
use Rattle.jx_line_values.specs.inside.Cutting.{HasTaken}
use Rattle.jx_line_values.specs.inside.RowsPart.{AreTurns, IsTakenTo}
use Rattle.jx_line_values.proofs.taking_rows.take_turns.Given as goal

abbrev pub invariant-loop-number : goal.invariant-loop-number
invariant-loop-number l =
    (bytes front given said : List ℕ) → AreTurns l.task front l.turns → HasTaken l.task bytes given said l.initial.cutter → IsTakenTo l.task bytes front given said (drop l.number l.turns) l.cutter

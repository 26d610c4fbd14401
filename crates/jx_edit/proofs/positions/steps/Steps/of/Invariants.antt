use Rattle.std.proofs.Common.{◌≡◌, ◌*◌, ◌<◌, ℕ, get_or, length, take}
use Rattle.jx_edit.specs.declared.positions.steps.Step.{Step}
use Rattle.jx_edit.specs.inside.Moves.{position_of}
use Rattle.jx_edit.specs.Positions.{first, position_behind}
use Rattle.jx_edit.proofs.positions.steps.Steps.of.Given as goal

-- the steps so far are kept, and the next one is known
abbrev pub invariant-loop-number : goal.invariant-loop-number
invariant-loop-number l = record {
  kept : (k : ℕ) (step : Step) → k < length l.steps.items → position_of (get_or l.steps.items k step) ≡ position_behind l.encoding first (take (k * 128) l.bytes);
  count : length l.steps.items ≡ l.number;
  next : l.position ≡ position_behind l.encoding first (take (l.number * 128) l.bytes);
}

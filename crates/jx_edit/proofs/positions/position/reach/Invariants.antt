use Rattle.std.proofs.Common.{◌≡◌, ◌≤◌, ◌+◌, ◌*◌, take, drop}
use Rattle.jx_edit.specs.Positions.{position_behind, reach}
use Rattle.jx_edit.proofs.positions.position.reach.Given as goal

-- the bytes so far are not past it
abbrev pub invariant-loop-count : goal.invariant-loop-count
invariant-loop-count l = record {
  is : l.position ≡ position_behind l.encoding l.fn.from (take l.count l.bytes);
  line : l.position.line ≤ l.fn.from.line + l.count;
  character : l.position.character ≤ l.fn.from.character + 2 * l.count;
  more : reach l.encoding l.fn.from l.to l.bytes ≡ l.count + reach l.encoding l.position l.to (drop l.count l.bytes);
}

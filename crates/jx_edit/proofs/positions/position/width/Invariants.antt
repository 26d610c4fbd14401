use Rattle.std.proofs.Common.{◌≡◌, ◌≤◌, ◌*◌, take}
use Rattle.std.specs.Prelude.{sum_by}
use Rattle.jx_edit.specs.Positions.{units}
use Rattle.jx_edit.proofs.positions.position.width.Given as goal

-- the units of the bytes so far, each of which has two at most
abbrev pub invariant-loop-byte : goal.invariant-loop-byte
invariant-loop-byte l = record {
  is : l.width ≡ sum_by (units l.encoding) (take l.byte-index l.bytes);
  few : l.width ≤ 2 * l.byte-index;
}

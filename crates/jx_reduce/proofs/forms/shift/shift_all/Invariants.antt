-- What stands before this one is shifted.
use Rattle.std.proofs.Common.{◌≡◌, ◌++◌, length, map, take, drop}
use Rattle.jx_reduce.proofs.forms.shift.shift_all.Given as goal

abbrev pub invariant-loop-at : goal.invariant-loop-at
invariant-loop-at g l = record {
  long : length l.list ≡ length l.initial.list;
  done : l.list ≡ map (g.T.Shift.shift l.by) (take l.at l.initial.list) ++ drop l.at l.initial.list;
}

use Rattle.std.proofs.Common.{◌≡◌, ◌*◌, length, min}
use Rattle.jx_edit.specs.inside.Passing.{IsPassed}
use Rattle.jx_edit.proofs.positions.passing.pass_groups.Given as goal

-- the groups before this one are passed
abbrev pub invariant-loop-group : goal.invariant-loop-group
invariant-loop-group l = record {
  is : IsPassed l.encoding l.fn.from l.sought l.chunks l.passed;
  here : l.passed.before ≡ min (l.group * 64) (length l.chunks);
}

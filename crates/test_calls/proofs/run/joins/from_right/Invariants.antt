use Rattle.std.proofs.Common.{◌≡◌}
use Rattle.jx_run.specs.Tree.{span}
use Rattle.test_calls.proofs.run.joins.from_right.Given as goal

abbrev pub invariant-loop-i : goal.invariant-loop-i
invariant-loop-i g l = record { place : g.S.Summary.span l.run ≡ span l.i l.len; depth : g.S.Summary.depth l.run ≡ l.depth }

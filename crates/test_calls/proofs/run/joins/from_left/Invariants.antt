use Rattle.std.proofs.Common.{◌≡◌}
use Rattle.jx_run.specs.Tree.{span}
use Rattle.test_calls.proofs.run.joins.from_left.Given as goal

abbrev pub invariant-loop-i : goal.invariant-loop-i
invariant-loop-i g l = record { place : g.S.Summary.span l.run ≡ span 0 l.i; depth : g.S.Summary.depth l.run ≡ l.depth }

use Rattle.std.proofs.Common.{sym, subst}
use Rattle.jx_reduce.specs.Reductions.{SpansIn}
use Rattle.jx_reduce.proofs.Spans.{before_any}
use Rattle.test_memory_of_runs.proofs.tests.marks.extends.serves_two.Goals as goal

pub is_extended-requires-clause-before : goal.is_extended-requires-clause-before
is_extended-requires-clause-before c = before_any _ _ (subst (SpansIn 0 0) (sym c.in_ok-copy.ensures) c.requires.before)

pub is_extended-requires-2-clause-before : goal.is_extended-requires-2-clause-before
is_extended-requires-2-clause-before c = before_any _ _ (c.new-fresh.ensures.offsets 0 0)

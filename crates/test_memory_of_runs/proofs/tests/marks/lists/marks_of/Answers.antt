use Rattle.std.proofs.Common.{◌+◌, arith}
use Rattle.jx_lex.specs.declared.alphabet.mark.Mark.{Mark}
use Rattle.jx_reduce.proofs.Cuts.{RisingFrom-push, below-push}
use Rattle.test_memory_of_runs.proofs.tests.marks.lists.marks_of.Goals as goal

pub loop-at-preserved : goal.loop-at-preserved
loop-at-preserved c =
    let next : Mark = record { kind = c.kind_of-kind.result; at = c.loop-at.at } in
    record {
      rising = rw c.in_ok-push.ensures.items (RisingFrom-push 0 0 c.loop-at.marks.items next (omega arith) c.loop-at.invariant.rising c.loop-at.invariant.below);
      below = rw c.in_ok-push.ensures.items (below-push 0 (c.loop-at.at + 1) c.loop-at.marks.items next (omega arith) (omega arith) c.loop-at.invariant.below);
    }

-- The bytes so far are put, and what stays of the rest is to come.
use Rattle.std.proofs.Common.{◌≡◌, ◌≤◌, ◌++◌, ◌-◌, false, drop, length}
use Rattle.std.specs.Prelude.{vec_capacity}
use Rattle.jx_compact.specs.Compact.{compact, compact_from}
use Rattle.jx_words.proofs.PutSteps.{IsPutUpTo}
use Rattle.jx_values.proofs.compact.put_compact.Given as goal

abbrev pub invariant-loop-start : goal.invariant-loop-start
invariant-loop-start g l = record {
  put : IsPutUpTo (g.W.Sink.contents l.initial.writer) (g.W.Sink.contents l.writer) l.out.items (compact_from l.place (drop l.start l.bytes)) (l.initial.out.items ++ compact l.bytes);
  going : g.W.Sink.has_failed l.writer ≡ false;
  large : 4096 ≤ vec_capacity l.out;
  within : l.start ≤ length l.bytes;
}

abbrev pub decreases-loop-start : goal.decreases-loop-start
decreases-loop-start g l = length l.bytes - l.start

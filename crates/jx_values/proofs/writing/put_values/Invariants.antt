-- The lines so far are put, and those of the rest are to come.
use Rattle.std.proofs.Common.{◌≡◌, ◌≤◌, ◌++◌, false, drop}
use Rattle.std.specs.Prelude.{flat_map, vec_capacity}
use Rattle.jx_words.proofs.PutSteps.{IsPutUpTo}
use Rattle.jx_values.specs.Values.{value_line}
use Rattle.jx_values.proofs.writing.put_values.Given as goal

abbrev pub invariant-loop-number : goal.invariant-loop-number
invariant-loop-number g l = record {
  put : IsPutUpTo (g.W.Sink.contents l.initial.writer) (g.W.Sink.contents l.writer) l.out.items (flat_map (value_line l.form l.text) (drop l.number l.answers)) (l.initial.out.items ++ flat_map (value_line l.form l.text) l.answers);
  going : g.W.Sink.has_failed l.writer ≡ false;
  large : 4096 ≤ vec_capacity l.out;
}

-- What was read so far was looked up.
use Rattle.std.specs.Prelude.{map, string_bytes}
use Rattle.std.proofs.Common.{◌≡◌, false}
use Rattle.jx_values.specs.inside.Kept.{AreLooked}
use Rattle.jx_values.proofs.reporting.look_up_all.Given as goal

abbrev pub invariant-loop : goal.invariant-loop
invariant-loop g l = record {
  reader : g.S.Source.has_failed l.reader ≡ false;
  looked : AreLooked l.settings (map string_bytes l.spelt) (g.S.Source.remaining l.initial.reader) (g.S.Source.remaining l.reader) l.values;
}

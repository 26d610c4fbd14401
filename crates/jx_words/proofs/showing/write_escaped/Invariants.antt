-- The bytes so far are written.
use Rattle.std.proofs.Common.{◌≡◌, false, drop}
use Rattle.jx_words.specs.Showing.{escaped}
use Rattle.jx_words.proofs.Shown.{IsWrittenUpTo}
use Rattle.jx_words.proofs.showing.write_escaped.Given as goal

abbrev pub invariant-loop-byte : goal.invariant-loop-byte
invariant-loop-byte g l = record {
  going : g.E.Sink.has_failed l.sink ≡ false;
  written : IsWrittenUpTo (g.E.Sink.contents l.initial.sink) (g.E.Sink.contents l.sink) (escaped (drop l.byte-index l.bytes)) (escaped l.bytes);
}

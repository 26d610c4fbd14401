-- The bytes so far are written, each line after what stands in front of it.
use Rattle.std.proofs.Common.{◌≡◌, false, drop}
use Rattle.jx_files.specs.Naming.{named_from}
use Rattle.jx_words.proofs.Shown.{IsWrittenUpTo}
use Rattle.jx_files.proofs.naming.write_named.Given as goal

abbrev pub invariant-loop-byte : goal.invariant-loop-byte
invariant-loop-byte g l = record {
  going : g.E.Sink.has_failed l.sink ≡ false;
  written : IsWrittenUpTo (g.E.Sink.contents l.initial.sink) (g.E.Sink.contents l.sink) (named_from l.is_first l.front (drop l.byte-index l.lines)) (named_from l.fn.starts l.front l.lines);
}

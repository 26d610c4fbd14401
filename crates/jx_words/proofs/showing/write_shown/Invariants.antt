-- The characters so far are written.
use Rattle.std.proofs.Common.{◌≡◌, false, drop, length}
use Rattle.std.specs.Str.{chars}
use Rattle.jx_words.specs.Showing.{shown, shown_from}
use Rattle.jx_words.proofs.Shown.{IsWrittenUpTo}
use Rattle.jx_words.proofs.showing.write_shown.Given as goal

abbrev pub invariant-loop-character : goal.invariant-loop-character
invariant-loop-character g l = record {
  going : g.E.Sink.has_failed l.sink ≡ false;
  written : IsWrittenUpTo (g.E.Sink.contents l.initial.sink) (g.E.Sink.contents l.sink) (shown_from l.is_behind_colon (drop (length l.yielded) (chars l.name))) (shown l.name);
}

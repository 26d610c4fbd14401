-- The words so far are reported on, and no write has failed.
use Rattle.std.proofs.Common.{◌≡◌, false, map, take}
use Rattle.jx_files.specs.Files.{ways_of, ReportsEach}
use Rattle.jx_files.proofs.reports.report_on_each.Given as goal

abbrev pub invariant-loop-number : goal.invariant-loop-number
invariant-loop-number g l = record {
  going : g.W.Sink.has_failed l.writer ≡ false;
  each : ReportsEach (ways_of (g.O.Opener.opens l.opener) (g.O.Opener.why l.opener) (g.O.Opener.shares l.opener) (g.O.Opener.may_fail l.opener) g.S.Source.remaining g.S.Source.has_failed) l.command (map (λ word. word.now) (take l.number l.words))
      (g.W.Sink.contents l.initial.writer) (g.W.Sink.contents l.writer) (g.E.Sink.has_failed l.errors) (g.E.Sink.contents l.initial.errors) (g.E.Sink.contents l.errors) l.status;
}

use Rattle.std.proofs.Common.{subst, sym, ap, ◌∙◌}
use Rattle.std.specs.Prelude.{is_some, slice_range}
use Rattle.jx_lex.specs.declared.alphabet.lex_exit.LexExit.{LexExit}
use Rattle.jx_run.specs.Verdict.{Judged}
use Rattle.jx_run.specs.Whole.{verdict_from}
use Rattle.jx_run.proofs.BothSeen.{Scanned, both_judged, other_seen}
use Rattle.jx_run.proofs.readers.one_pass.read_into.Goals as goal

pub returns-clause-verdict : goal.returns-clause-verdict
returns-clause-verdict g c =
    let bytes = slice_range c.args.text.now c.args.from c.args.to in
    let s : Scanned c.args.depth c.args.from bytes (g.K.TokenSink.has_seen c.args.sink) (g.K.TokenSink.has_seen c.scan_by.new.sink.other.sink) c.new.result c.scan_by.new.sink.stack c.in_ok-exit.exit c.whole.result = record {
      depth = c.new.ensures.depth;
      start = c.new.ensures.reads;
      sees = c.in_ok-exit.ensures.seen;
      exit = c.in_ok-exit.ensures.exit;
      done = λ e. c.in_ok-exit.ensures.done (ap is_some e);
      whole = c.whole.ensures;
    } in
    subst (Judged c.args.from bytes c.args.depth)
    (ap (λ (e : LexExit). verdict_from e c.whole.result) (sym c.unwrap_or.ensures) ∙ sym c.verdict_from-verdict.ensures)
    (both_judged c.reader_and_grammar.ensures.verdict _ _ _ _ _ _ _ _ _ s)

pub returns-clause-seen : goal.returns-clause-seen
returns-clause-seen g c = λ accepted.
    let bytes = slice_range c.args.text.now c.args.from c.args.to in
    let s : Scanned c.args.depth c.args.from bytes (g.K.TokenSink.has_seen c.args.sink) (g.K.TokenSink.has_seen c.scan_by.new.sink.other.sink) c.new.result c.scan_by.new.sink.stack c.in_ok-exit.exit c.whole.result = record {
      depth = c.new.ensures.depth;
      start = c.new.ensures.reads;
      sees = c.in_ok-exit.ensures.seen;
      exit = c.in_ok-exit.ensures.exit;
      done = λ e. c.in_ok-exit.ensures.done (ap is_some e);
      whole = c.whole.ensures;
    } in
    other_seen _ _ _ _ _ _ _ _ _ c.unwrap_or.result s (sym c.verdict_from-verdict.ensures ∙ accepted)

use Rattle.std.proofs.Common.{◌≡◌, ◌-◌, length, ap, sym, subst, arith}
use Rattle.std.specs.Prelude.{is_some, slice_range}
use Rattle.std.proofs.lemmas.List.Edits.{length-between}
use Rattle.jx_lex.specs.declared.alphabet.lex_exit.LexExit.{LexExit}
use Rattle.jx_run.specs.OutcomeRun.{outcome_of}
use Rattle.jx_run.specs.inside.Rest.{AreRead}
use Rattle.jx_run.proofs.RestTransitions.{Scanned, scanned_reads, scanned_within}
use Rattle.jx_run.proofs.runs.rest.read_from.Goals as goal

pub returns : goal.returns
returns c =
    let bytes = slice_range c.args.text.now c.args.from c.args.to in
    let new = c.scan.new.sink.reducer in
    let s : Scanned c.args.depth c.args.from bytes c.args.state c.new.result new c.in_ok-exit.exit c.in_ok-marks.marks = record {
      depth = c.new.ensures.depth;
      none = c.new.ensures.none;
      sees = c.in_ok-exit.ensures.seen;
      exit = c.in_ok-exit.ensures.exit;
      done = λ e. c.in_ok-exit.ensures.done (ap is_some e);
      form_depth = c.in_ok-marks.ensures.depth;
      reads = c.in_ok-marks.ensures.reads;
      offsets = c.in_ok-marks.ensures.offsets;
    } in
    let long : length bytes ≡ c.args.to - c.args.from = length-between c.args.text.now c.args.from c.args.to c.requires.1 in
    let low = c.requires.0 in
    record {
      reads = subst (λ (e : LexExit). AreRead c.args.depth c.args.from bytes c.args.state (outcome_of (record { exit = e; marks = c.in_ok-marks.marks }))) (sym c.unwrap_or.ensures)
          (scanned_reads c.args.depth c.args.from bytes c.args.state c.new.result new c.in_ok-exit.exit c.in_ok-marks.marks s _);
      within = scanned_within c.args.depth c.args.from bytes c.args.state c.new.result new c.in_ok-exit.exit c.in_ok-marks.marks s c.args.to (omega (arith, long, low));
    }

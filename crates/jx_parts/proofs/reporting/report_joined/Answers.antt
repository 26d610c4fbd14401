use Rattle.std.proofs.Common.{Result, Ok, Err, OnOk}
use Rattle.std.proofs.lemmas.Result.{err_from_is_err_and}
use Rattle.std.specs.List.{concat}
use Rattle.std.specs.Io.KnownBytes.{Appends}
use Rattle.jx_parts.specs.inside.Writing.{IsWritten}
use Rattle.jx_parts.proofs.Taken.{runs_join}
use Rattle.jx_parts.proofs.reporting.report_joined.Goals as goal

-- what holds where a call gives Ok, and what follows from it
carried : {T E A B : Type 0} (result : Result T E) → OnOk result A → (A → B) → OnOk result B
carried (Ok x) holds goes = goes holds
carried (Err e) holds goes = holds

pub returns-clause-ok : goal.returns-clause-ok
returns-clause-ok g c =
    let read = c.in_ok-joined.ensures.ok in
    let portion = c.in_ok-joined.joined in
    let Written = IsWritten (Appends (g.W.Sink.contents c.args.writer.now) (g.W.Sink.contents c.write_record.new.writer)) portion in
    carried {A = Written} c.write_record.result c.write_record.ensures.ok (λ written. record {
      text = read.stream;
      output = written.output;
      read = read.read;
      answer = record {
        from = portion.from;
        count = portion.run.end;
        holds = read.holds;
        joined = λ start parts records whole are. written.of (concat parts) start c.args.depth (read.of start parts records whole are);
      };
      wrote = written.wrote;
    })

pub returns-clause-beginning : goal.returns-clause-beginning
returns-clause-beginning g c = λ is.
    let read = c.in_ok-joined.ensures.ok in
    let portion = c.in_ok-joined.joined in
    let written = c.write_record.ensures.beginning is in
    record {
      text = read.stream;
      output = written.output;
      read = read.read;
      answer = record {
        from = portion.from;
        count = portion.run.end;
        holds = read.holds;
        joined = λ start parts records whole are. written.of (concat parts) start c.args.depth (read.of start parts records whole are);
      };
      wrote = written.wrote;
    }

pub returns-in_err-joined-clause-taken : goal.returns-in_err-joined-clause-taken
returns-in_err-joined-clause-taken g c = λ stream from count known holds.
    let is = runs_join c.args.depth from count stream c.in_err-joined.field-0.0 holds (c.in_err-joined.ensures.refused stream known) in
    let p = err_from_is_err_and c.from_residual.result c.from_residual.ensures.1 in
    rw (p.1, p.2) is

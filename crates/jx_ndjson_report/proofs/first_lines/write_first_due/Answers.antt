use Rattle.std.proofs.Common.{◌≡◌, ◌∙◌, rules, subst, sym}
use Rattle.std.proofs.lemmas.Result.{err_from_is_err_and}
use Rattle.jx_ends.specs.declared.report_fault.ReportFault.TheVariants as fault
use Rattle.jx_ends.proofs.Faults.{fault_is, same_fault}
use Rattle.jx_drive.specs.Reports.{DueOrWhole, WroteLines}
use Rattle.jx_drive.proofs.Writes.{due_at_fault, goes_on, lines_at_end, lines_at_fault, part_at_fault}
use Rattle.jx_ndjson_report.specs.First.{IsDueBelow, IsFirstDue, OutputBelow}
use Rattle.jx_ndjson_report.specs.inside.FirstSteps.{HasTakenBelow, HasTakenMost, none_of, ready_of}
use Rattle.jx_ndjson_report.proofs.FirstTakes.{below_due, most_written}
use Rattle.jx_ndjson_report.proofs.first_lines.write_first_due.Goals as goal

pub returns-in_err-write_first-in-Ok-clause-lines : goal.returns-in_err-write_first-in-Ok-clause-lines
returns-in_err-write_first-in-Ok-clause-lines g c = λ is.
    let task = c.args.task.now in
    let most = c.args.most in
    let u = g.S.Source.remaining c.args.reader.now in
    let n = g.S.Source.remaining c.read.new.self in
    let w = g.W.Sink.contents c.args.writer.now in
    let lines : WroteLines (IsDueBelow task most) u n w (g.W.Sink.contents c.loop.writer) =
    lines_at_fault (HasTakenBelow task most) ready_of none_of (IsDueBelow task most) (λ bytes given t h _. below_due c.ended_lines_of_a_reader.ensures.told task most bytes given t h)
    u (g.S.Source.remaining c.loop.reader) n w (g.W.Sink.contents c.loop.writer) c.loop.teller _ c.loop.invariant.written c.in-Ok.ensures.bytes.0 in
    let p = err_from_is_err_and c.from_residual.result c.from_residual.ensures.1 in
    let memory : c.in_err-write_first-in-Ok.field-0.0 ≡ fault.Memory = sym p.2 ∙ fault_is c.from_residual.result p.0 fault.Memory p.1 is in
    let kept : c.write_first.new.writer ≡ c.loop.writer = c.in_err-write_first-in-Ok.ensures.unwritten (λ w. let e : fault.Memory ≡ fault.Write = sym memory ∙ w in absurd cc) in
    subst (λ x. WroteLines (IsDueBelow task most) u n w (g.W.Sink.contents x)) (sym kept) lines

pub returns-in_err-write_first-in-Ok-clause-beginning : goal.returns-in_err-write_first-in-Ok-clause-beginning
returns-in_err-write_first-in-Ok-clause-beginning g c = λ is.
    let task = c.args.task.now in
    let most = c.args.most in
    let p = err_from_is_err_and c.from_residual.result c.from_residual.ensures.1 in
    part_at_fault (HasTakenBelow task most) ready_of none_of (DueOrWhole (IsFirstDue task most) (OutputBelow task most))
    (g.S.Source.remaining c.args.reader.now) (g.S.Source.remaining c.loop.reader) (g.S.Source.remaining c.read.new.self)
    (g.W.Sink.contents c.args.writer.now) (g.W.Sink.contents c.loop.writer) (g.W.Sink.contents c.write_first.new.writer) c.loop.teller _ c.loop.invariant.written c.in-Ok.ensures.bytes.0
    (c.write_first.ensures.beginning (same_fault c.write_first.result c.from_residual.result c.in_err-write_first-in-Ok.field-0.0 p.0 fault.Write c.in_err-write_first-in-Ok.was p.1 p.2 is))

pub returns-in-Err-clause-due : goal.returns-in-Err-clause-due
returns-in-Err-clause-due g c = λ is.
    let task = c.args.task.now in
    let most = c.args.most in
    due_at_fault (HasTakenBelow task most) ready_of none_of (IsDueBelow task most) (λ bytes given t h _. below_due c.ended_lines_of_a_reader.ensures.told task most bytes given t h)
    (g.S.Source.remaining c.args.reader.now) (g.S.Source.remaining c.loop.reader) (g.S.Source.remaining c.read.new.self)
    (g.W.Sink.contents c.args.writer.now) (g.W.Sink.contents c.loop.writer) c.loop.teller c.loop.invariant.written c.in-Err.ensures.bytes

pub returns-then-branch-clause-full : goal.returns-then-branch-clause-full
returns-then-branch-clause-full g c = λ is.
    let task = c.args.task.now in
    let most = c.args.most in
    let u = g.S.Source.remaining c.args.reader.now in
    let n = g.S.Source.remaining c.read.new.self in
    let w = g.W.Sink.contents c.args.writer.now in
    let y = g.W.Sink.contents c.write_first.new.writer in
    most_written c.ended_lines_of_a_reader.ensures.told task most u n w y c.write_first.new.teller
    (goes_on (HasTakenMost task most) ready_of none_of (HasTakenBelow task most) u (g.S.Source.remaining c.loop.reader) n w (g.W.Sink.contents c.loop.writer) y
    _ c.loop.teller c.write_first.new.teller c.loop.invariant.written c.in-Ok.ensures.bytes.0 (c.in_ok-write_first-in-Ok.ensures.full c.if-branch.true))

pub loop-preserved : goal.loop-preserved
loop-preserved g c = record {
  reader = search rules;
  writer = search rules;
  few = search rules;
  written = goes_on (HasTakenBelow c.args.task.now c.args.most) ready_of none_of (HasTakenBelow c.args.task.now c.args.most)
      (g.S.Source.remaining c.args.reader.now) (g.S.Source.remaining c.loop.reader) (g.S.Source.remaining c.read.new.self)
      (g.W.Sink.contents c.args.writer.now) (g.W.Sink.contents c.loop.writer) (g.W.Sink.contents c.write_first.new.writer)
      _ c.loop.teller c.write_first.new.teller c.loop.invariant.written c.in-Ok.ensures.bytes.0 (search rules);
}

pub returns-clause-lines : goal.returns-clause-lines
returns-clause-lines g c = λ is.
    let task = c.args.task.now in
    let most = c.args.most in
    lines_at_end (HasTakenBelow task most) ready_of none_of (IsDueBelow task most) (λ bytes given t h _. below_due c.ended_lines_of_a_reader.ensures.told task most bytes given t h)
    (g.S.Source.remaining c.args.reader.now) (g.S.Source.remaining c.loop.reader) (g.W.Sink.contents c.args.writer.now) (g.W.Sink.contents c.loop.writer) c.loop.teller c.loop.invariant.written

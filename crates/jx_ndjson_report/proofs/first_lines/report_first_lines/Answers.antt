use Rattle.std.proofs.Common.{◌<◌, ◌++◌, List, ℕ, arith, refl, subst, inl, inr}
use Rattle.std.proofs.lemmas.Result.{err_from_is_err_and}
use Rattle.std.specs.Io.KnownBytes.{Appends}
use Rattle.jx_ends.specs.declared.report_fault.ReportFault.TheVariants as fault
use Rattle.jx_ends.specs.Ends.{AppendsBeginning}
use Rattle.jx_ends.proofs.Faults.{same_fault}
use Rattle.jx_drive.specs.Reports.{DueOrWhole}
use Rattle.jx_drive.proofs.Writes.{as_written, lines_at_end, part_at_end, reports, starts}
use Rattle.jx_ndjson_report.specs.First.{IsDueBelow, IsFirstDue, OutputBelow}
use Rattle.jx_ndjson_report.specs.inside.FirstSteps.{HasTakenBelow, none_of, ready_of}
use Rattle.jx_ndjson_report.proofs.FirstTakes.{below_due}
use Rattle.jx_ndjson_report.proofs.first_lines.report_first_lines.Goals as goal

pub returns-in_err-buffer-clause-lines : goal.returns-in_err-buffer-clause-lines
returns-in_err-buffer-clause-lines g c = λ is.
    let task = c.args.task.now in
    let most = c.args.most in
    let u = g.S.Source.remaining c.args.reader.now in
    let w = g.W.Sink.contents c.args.writer.now in
    let t = c.new-teller.result in
    let one = c.requires.most in
    let none = c.new-teller.ensures.bad in
    let few : t.bad < most = omega (arith, one, none) in
    lines_at_end (HasTakenBelow task most) ready_of none_of (IsDueBelow task most) (λ bytes given t h _. below_due c.ended_lines_of_a_reader.ensures.told task most bytes given t h) u u w w t
    (starts (HasTakenBelow task most) ready_of none_of u w t (c.new-teller.ensures.taken, few) c.new-teller.ensures.ready refl)

pub returns-in_err-write_first_due-clause-due : goal.returns-in_err-write_first_due-clause-due
returns-in_err-write_first_due-clause-due g c = λ is.
    let p = err_from_is_err_and c.from_residual-in_err-write_first_due.result c.from_residual-in_err-write_first_due.ensures.1 in
    c.write_first_due.ensures.due (same_fault c.write_first_due.result c.from_residual-in_err-write_first_due.result c.in_err-write_first_due.field-0.0 p.0 fault.Read c.in_err-write_first_due.was p.1 p.2 is)

pub returns-in_err-write_first_due-clause-lines : goal.returns-in_err-write_first_due-clause-lines
returns-in_err-write_first_due-clause-lines g c = λ is.
    let p = err_from_is_err_and c.from_residual-in_err-write_first_due.result c.from_residual-in_err-write_first_due.ensures.1 in
    c.write_first_due.ensures.lines (same_fault c.write_first_due.result c.from_residual-in_err-write_first_due.result c.in_err-write_first_due.field-0.0 p.0 fault.Memory c.in_err-write_first_due.was p.1 p.2 is)

pub returns-in_err-write_first_due-clause-beginning :
    goal.returns-in_err-write_first_due-clause-beginning
returns-in_err-write_first_due-clause-beginning g c = λ is.
    let p = err_from_is_err_and c.from_residual-in_err-write_first_due.result c.from_residual-in_err-write_first_due.ensures.1 in
    c.write_first_due.ensures.beginning (same_fault c.write_first_due.result c.from_residual-in_err-write_first_due.result c.in_err-write_first_due.field-0.0 p.0 fault.Write c.in_err-write_first_due.was p.1 p.2 is)

pub returns-then-branch-clause-ok : goal.returns-then-branch-clause-ok
returns-then-branch-clause-ok g c = inr (refl, c.in_ok-write_first_due.ensures.full c.if-branch.true)

pub returns-in_err-exit-clause-lines : goal.returns-in_err-exit-clause-lines
returns-in_err-exit-clause-lines g c = λ is.
    let task = c.args.task.now in
    let most = c.args.most in
    let u = g.S.Source.remaining c.args.reader.now in
    let n = g.S.Source.remaining c.write_first_due.new.reader in
    let w = g.W.Sink.contents c.args.writer.now in
    let x = g.W.Sink.contents c.write_first_due.new.writer in
    let t = c.write_first_due.new.teller in
    lines_at_end (HasTakenBelow task most) ready_of none_of (IsDueBelow task most) (λ bytes given t h _. below_due c.ended_lines_of_a_reader.ensures.told task most bytes given t h) u n w x t
    (as_written (HasTakenBelow task most) ready_of none_of u n w x t (c.in_ok-write_first_due.ensures.ended c.if-branch.false))

pub returns-in_err-write_whole-clause-beginning : goal.returns-in_err-write_whole-clause-beginning
returns-in_err-write_whole-clause-beginning g c = λ is.
    let task = c.args.task.now in
    let most = c.args.most in
    let u = g.S.Source.remaining c.args.reader.now in
    let n = g.S.Source.remaining c.write_first_due.new.reader in
    let w = g.W.Sink.contents c.args.writer.now in
    let x = g.W.Sink.contents c.write_first_due.new.writer in
    let y = g.W.Sink.contents c.write_whole.new.writer in
    let t = c.write_first_due.new.teller in
    part_at_end (HasTakenBelow task most) ready_of none_of (DueOrWhole (IsFirstDue task most) (OutputBelow task most)) u n w x y t c.finish.new.self.ready
    (c.in_ok-write_first_due.ensures.ended c.if-branch.false)
    (λ bytes given h. inr (c.in_ok-exit.exit, (c.in_ok-exit.ensures.ended tt tt bytes given h.0, (given ++ t.ready, below_due c.ended_lines_of_a_reader.ensures.told task most bytes given t h))))
    (subst (λ (l : List ℕ). AppendsBeginning x y l) c.ready.ensures.ready c.in_err-write_whole.ensures.err)

pub returns-clause-ok : goal.returns-clause-ok
returns-clause-ok g c =
    let task = c.args.task.now in
    let most = c.args.most in
    let u = g.S.Source.remaining c.args.reader.now in
    let n = g.S.Source.remaining c.write_first_due.new.reader in
    let w = g.W.Sink.contents c.args.writer.now in
    let x = g.W.Sink.contents c.write_first_due.new.writer in
    let y = g.W.Sink.contents c.write_whole.new.writer in
    let t = c.write_first_due.new.teller in
    inl (reports (HasTakenBelow task most) ready_of none_of (OutputBelow task most) u n w x y t c.finish.new.self.ready c.in_ok-exit.exit (c.in_ok-write_first_due.ensures.ended c.if-branch.false)
    (λ bytes given h. (c.in_ok-exit.ensures.ended tt tt bytes given h.0, (given ++ t.ready, below_due c.ended_lines_of_a_reader.ensures.told task most bytes given t h)))
    (subst (λ (l : List ℕ). Appends x y l) c.ready.ensures.ready c.in_ok-write_whole.ensures.ok))

use Rattle.std.proofs.Common.{◌≡◌, ℕ, true, rules, sym, subst}
use Rattle.jx_parallel.specs.declared.check_fault.CheckFault.TheVariants.{Read}
use Rattle.jx_parallel.specs.Offsets.{EndsBefore}
use Rattle.jx_parallel.specs.Parts.{GoesOn}
use Rattle.jx_drive_at.specs.ReportsAt.{WroteInPartAt}
use Rattle.jx_drive_at.proofs.InRounds.{at_read, due, in_part, reads_on, reason_at, stopped_at, writes_on}
use Rattle.jx_drive_at.proofs.driver.report_round.Goals as goal

pub returns-in-Ok-write_waiting-clause-ok : goal.returns-in-Ok-write_waiting-clause-ok
returns-in-Ok-write_waiting-clause-ok g c = λ was written h.
    let task = c.args.task.now in
    let known = g.F.SharedAt.content c.args.file.now in
    let old = c.args.beside.now in
    let x = g.W.Sink.contents c.args.writer.now in
    let y = g.W.Sink.contents c.write_waiting.new.writer in
    let mid = c.read.new.reader in
    writes_on (g.T.Reporter.has_taken task was c.write_waiting.new.beside) g.T.Reporter.ready g.T.Reporter.told known (g.T.Reporter.has_taken task was old) c.in-Ok.more written x y mid c.write_waiting.new.reporter
    (reads_on (g.T.Reporter.has_taken task was old) g.T.Reporter.ready g.T.Reporter.told known (g.T.PartReader.has_read c.args.rule.now) c.in-Ok.more written x c.args.reporter.now mid c.end-end.result
    (c.requires.reads was old) h.taken c.in-Ok.ensures.read (λ none. subst (λ (n : ℕ). EndsBefore known n) (sym c.end-end.ensures.end) (c.in-Ok.ensures.end none)) (c.end-end.ensures.length c.args.rule.now))
    c.in-Ok-write_waiting.ensures.ok (c.in-Ok-write_waiting.ensures.taken task was) c.in-Ok-write_waiting.ensures.ready c.in-Ok-write_waiting.ensures.told

pub returns-in-Err-clause-fault : goal.returns-in-Err-clause-fault
returns-in-Err-clause-fault g c = λ was written h.
    let task = c.args.task.now in
    let known = g.F.SharedAt.content c.args.file.now in
    let old = c.args.beside.now in
    let x = g.W.Sink.contents c.args.writer.now in
    let y = g.W.Sink.contents c.write_waiting.new.writer in
    let mid = c.read.new.reader in
    subst (λ b. WroteInPartAt (g.T.Reporter.is_begun task was b) known written y) (sym c.in-Err.ensures.untold)
    (in_part (g.T.Reporter.has_taken task was old) g.T.Reporter.ready g.T.Reporter.told known (g.T.Reporter.is_begun task was old) c.in-Ok.more written x y mid (g.T.Reporter.ready mid)
    (λ bytes given t. c.what_waits_is_due.ensures.begun task was old bytes given mid t)
    (reads_on (g.T.Reporter.has_taken task was old) g.T.Reporter.ready g.T.Reporter.told known (g.T.PartReader.has_read c.args.rule.now) c.in-Ok.more written x c.args.reporter.now mid c.end-end.result
    (c.requires.reads was old) h.taken c.in-Ok.ensures.read (λ none. subst (λ (n : ℕ). EndsBefore known n) (sym c.end-end.ensures.end) (c.in-Ok.ensures.end none)) (c.end-end.ensures.length c.args.rule.now))
    c.in-Err.ensures.err)

pub returns-in-Ok-write_waiting-2-clause-fault : goal.returns-in-Ok-write_waiting-2-clause-fault
returns-in-Ok-write_waiting-2-clause-fault g c = λ was written h.
    let task = c.args.task.now in
    let known = g.F.SharedAt.content c.args.file.now in
    let may = g.F.SharedAt.may_fail c.args.file.now in
    let old = c.args.beside.now in
    let new = c.write_waiting-in-Err-Read.new.beside in
    let x = g.W.Sink.contents c.args.writer.now in
    let y = g.W.Sink.contents c.write_waiting-in-Err-Read.new.writer in
    let mid = c.read.new.reader in
    let last = c.write_waiting-in-Err-Read.new.reporter in
    let is : c.in-Err-Read.field-0 ≡ Read c.in-Err-Read.reason = search rules in
    let goes : Type 0 = GoesOn known (g.T.PartReader.has_read c.args.rule.now) c.args.reporter.now mid in (
      reason_at may c.in-Err-Read.field-0 c.in-Err-Read.reason is c.in-Err-Read.ensures.fault,
      due (g.T.Reporter.has_taken task was new) g.T.Reporter.ready g.T.Reporter.told known (g.T.Reporter.is_due task was new) true written y last
          (λ bytes given t quiet. c.what_waits_is_due.ensures.due task was new bytes given last t quiet)
          (writes_on (g.T.Reporter.has_taken task was new) g.T.Reporter.ready g.T.Reporter.told known (g.T.Reporter.has_taken task was old) true written x y mid last
          (stopped_at (g.T.Reporter.has_taken task was old) g.T.Reporter.ready g.T.Reporter.told known (g.T.PartReader.has_read c.args.rule.now) written x c.args.reporter.now mid
          (c.requires.reads was old) h.taken (at_read goes c.in-Err-Read.field-0 c.in-Err-Read.reason is c.in-Err-Read.ensures.stopped))
          c.in-Ok-write_waiting-2.ensures.ok (c.in-Ok-write_waiting-2.ensures.taken task was) c.in-Ok-write_waiting-2.ensures.ready c.in-Ok-write_waiting-2.ensures.told),
    )

pub returns-in-Err-write_waiting-clause-fault : goal.returns-in-Err-write_waiting-clause-fault
returns-in-Err-write_waiting-clause-fault g c = λ was written h.
    let task = c.args.task.now in
    let known = g.F.SharedAt.content c.args.file.now in
    let old = c.args.beside.now in
    let x = g.W.Sink.contents c.args.writer.now in
    let y = g.W.Sink.contents c.write_waiting-in-Err-Read.new.writer in
    let mid = c.read.new.reader in
    let is : c.in-Err-Read.field-0 ≡ Read c.in-Err-Read.reason = search rules in
    let goes : Type 0 = GoesOn known (g.T.PartReader.has_read c.args.rule.now) c.args.reporter.now mid in
    subst (λ b. WroteInPartAt (g.T.Reporter.is_begun task was b) known written y) (sym c.in-Err-write_waiting.ensures.untold)
    (in_part (g.T.Reporter.has_taken task was old) g.T.Reporter.ready g.T.Reporter.told known (g.T.Reporter.is_begun task was old) true written x y mid (g.T.Reporter.ready mid)
    (λ bytes given t. c.what_waits_is_due.ensures.begun task was old bytes given mid t)
    (stopped_at (g.T.Reporter.has_taken task was old) g.T.Reporter.ready g.T.Reporter.told known (g.T.PartReader.has_read c.args.rule.now) written x c.args.reporter.now mid
    (c.requires.reads was old) h.taken (at_read goes c.in-Err-Read.field-0 c.in-Err-Read.reason is c.in-Err-Read.ensures.stopped))
    c.in-Err-write_waiting.ensures.err)

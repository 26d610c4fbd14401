use Rattle.std.proofs.Common.{◌≡◌, ◌+◌, ◌++◌, List, ℕ, rules, sym, subst}
use Rattle.std.specs.Prelude.{Option}
use Rattle.std.proofs.lemmas.Result.{err_from_is_err_and}
use Rattle.jx_ndjson.specs.Reading.{LineReaderValue}
use Rattle.jx_parallel.specs.declared.part_reader.PartRule.{PartRule}
use Rattle.jx_parallel.specs.declared.check_fault.CheckFault.{CheckFault}
use Rattle.jx_parallel.specs.declared.check_fault.CheckFault.TheVariants.{Read}
use Rattle.jx_parallel.specs.Faults.{IfRead, ReadFailsBy}
use Rattle.jx_parallel.specs.Offsets.{EndsBefore, StandThere}
use Rattle.jx_parallel_report.specs.LinesAt.{WroteLines}
use Rattle.jx_parallel_report.specs.inside.Lines.{AfterFault, HasRead, IsTold}
use Rattle.jx_parallel_report.proofs.Lines.{due, for_reason, handed, never_read, told_on}
use Rattle.jx_parallel_report.proofs.lines_report.tell_round.Goals as goal

pub returns-in_ok-write_waiting-in-Ok-clause-told : goal.returns-in_ok-write_waiting-in-Ok-clause-told
returns-in_ok-write_waiting-in-Ok-clause-told g c = λ written h.
    let rule = c.args.rule.now in
    let known = g.F.SharedAt.content c.args.file.now in
    c.in_ok-write_waiting-in-Ok.ensures.told rule known written
    (told_on g.K.Asked.settings g.K.Asked.told rule known written (g.W.Sink.contents c.args.writer.now) c.args.reader.now.tally c.read_round.new.reader.tally h c.in-Ok.ensures.read)

pub returns-in_ok-write_waiting-in-Ok-clause-end : goal.returns-in_ok-write_waiting-in-Ok-clause-end
returns-in_ok-write_waiting-in-Ok-clause-end g c = λ is.
    subst (λ (r : LineReaderValue). EndsBefore (g.F.SharedAt.content c.args.file.now) (r.reader.start + r.reader.count)) (sym c.in_ok-write_waiting-in-Ok.ensures.lines) (c.in-Ok.ensures.end is)

pub returns-in_err-write_waiting-in-Ok-clause-fault : goal.returns-in_err-write_waiting-in-Ok-clause-fault
returns-in_err-write_waiting-in-Ok-clause-fault g c =
    let S = g.K.Asked.settings in
    let T = g.K.Asked.told in
    let rule = c.args.rule.now in
    let known = g.F.SharedAt.content c.args.file.now in
    let task = c.args.task.now in
    let x = g.W.Sink.contents c.args.writer.now in
    let y = g.W.Sink.contents c.write_waiting.new.writer in
    let old = c.args.reader.now.tally in
    let mid = c.read_round.new.reader.tally in
    let p = err_from_is_err_and c.from_residual.result c.from_residual.ensures.1 in
    handed
    (λ fault. (r : PartRule) (k written : Option (List ℕ)) → WroteLines task k written x → IsTold S T r k written x mid → AfterFault task k (λ _. ⊥) written y fault)
    (λ fault. (written : Option (List ℕ)) → IsTold S T rule known written x old → AfterFault task known (g.F.SharedAt.may_fail c.args.file.now) written y fault)
    c.write_waiting.result c.from_residual.result c.in_err-write_waiting-in-Ok.field-0.0 p.0
    (λ fault after written h.
    never_read task known (g.F.SharedAt.may_fail c.args.file.now) written y fault
    (after rule known written (due S T rule known c.ended_lines_of_a_reader.ensures.told task c.requires.settings c.requires.told written x old h c.requires.none_wait)
    (told_on S T rule known written x old mid h c.in-Ok.ensures.read)))
    c.write_waiting.ensures.fault c.in_err-write_waiting-in-Ok.was p.1 p.2

pub returns-in-Err-Memory-clause-fault : goal.returns-in-Err-Memory-clause-fault
returns-in-Err-Memory-clause-fault g c = λ written h.
    due g.K.Asked.settings g.K.Asked.told c.args.rule.now (g.F.SharedAt.content c.args.file.now) c.ended_lines_of_a_reader.ensures.told c.args.task.now c.requires.settings c.requires.told
    written (g.W.Sink.contents c.args.writer.now) c.args.reader.now.tally h c.requires.none_wait

at_read : {E : Type 0} (P : Type 0) (f : CheckFault E) (reason : E) → f ≡ Read reason → IfRead P f → P
at_read P f reason is h = subst (λ (e : CheckFault _). IfRead P e) is h

reason_at : {E : Type 0} (may : E → Type 0) (f : CheckFault E) (reason : E) → f ≡ Read reason → ReadFailsBy may f → may reason
reason_at may f reason is h = subst (λ (e : CheckFault _). ReadFailsBy may e) is h

pub returns-in-Err-Read-clause-fault : goal.returns-in-Err-Read-clause-fault
returns-in-Err-Read-clause-fault g c = λ written h.
    let S = g.K.Asked.settings in
    let T = g.K.Asked.told in
    let rule = c.args.rule.now in
    let known = g.F.SharedAt.content c.args.file.now in
    let task = c.args.task.now in
    let x = g.W.Sink.contents c.args.writer.now in
    let old = c.args.reader.now.tally in
    let mid = c.read_round.new.reader.tally in
    let is : c.in-Err-Read.field-0 ≡ Read c.in-Err-Read.reason = search rules in
    let goes : Type 0 = (xs given : List ℕ) → StandThere known 0 xs → HasRead S T rule xs given old → (more : List ℕ) × StandThere known 0 (xs ++ more) × HasRead S T rule (xs ++ more) given mid in
    for_reason task known (g.F.SharedAt.may_fail c.args.file.now) written (g.W.Sink.contents c.stop.new.writer) c.in-Err-Read.reason
    (reason_at (g.F.SharedAt.may_fail c.args.file.now) c.in-Err-Read.field-0 c.in-Err-Read.reason is c.in-Err-Read.ensures.fault) c.stop.result
    (c.stop.ensures.fault rule known written (due S T rule known c.ended_lines_of_a_reader.ensures.told task c.requires.settings c.requires.told written x old h c.requires.none_wait)
    (told_on S T rule known written x old mid h (at_read goes c.in-Err-Read.field-0 c.in-Err-Read.reason is c.in-Err-Read.ensures.stopped)))

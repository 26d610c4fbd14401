use Rattle.std.proofs.Common.{◌+◌, List, ℕ, subst}
use Rattle.std.specs.Prelude.{Option}
use Rattle.std.proofs.lemmas.Result.{err_from_is_err_and}
use Rattle.std.specs.Io.KnownBytes.{Appends}
use Rattle.jx_ends.specs.Ends.{AppendsBeginning}
use Rattle.jx_ndjson.specs.Reading.{listed}
use Rattle.jx_parallel.specs.declared.part_reader.PartRule.{PartRule}
use Rattle.jx_parallel.specs.Offsets.{EndsBefore}
use Rattle.jx_parallel_report.specs.inside.Lines.{AfterFault, IsTold}
use Rattle.jx_parallel_report.proofs.Lines.{due, ends, ends_in_part, of_memory}
use Rattle.jx_parallel_report.proofs.lines_report.write_end.Goals as goal

pub returns-in-Ok-clause-ok : goal.returns-in-Ok-clause-ok
returns-in-Ok-clause-ok g c = λ rule known written h end.
    let x = g.W.Sink.contents c.args.writer.now in
    let y = g.W.Sink.contents c.write_whole.new.writer in
    ends g.K.Asked.settings g.K.Asked.told rule known c.ended_lines_of_a_reader.ensures.told c.args.task.now c.requires.settings c.requires.told written x
    c.args.reader.now.tally h c.requires.none_wait end c.in_ok-told.told.words.items (listed c.told_at_end-end.result.bad) c.told_at_end-end.result.counts c.in_ok-told.told.exit
    c.told_at_end-end.ensures c.in_ok-told.ensures y (subst (λ (l : List ℕ). Appends x y l) c.deref.ensures.value c.in-Ok.ensures.ok)

pub returns-clause-fault : goal.returns-clause-fault
returns-clause-fault g c = λ rule known written h end.
    let x = g.W.Sink.contents c.args.writer.now in
    let y = g.W.Sink.contents c.write_whole.new.writer in
    ends_in_part g.K.Asked.settings g.K.Asked.told rule known c.ended_lines_of_a_reader.ensures.told c.args.task.now c.requires.settings c.requires.told written x
    c.args.reader.now.tally h c.requires.none_wait end c.in_ok-told.told.words.items (listed c.told_at_end-end.result.bad) c.told_at_end-end.result.counts c.in_ok-told.told.exit
    c.told_at_end-end.ensures c.in_ok-told.ensures y (subst (λ (l : List ℕ). AppendsBeginning x y l) c.deref.ensures.value c.in-Err.ensures.err)

pub returns-in_err-told-clause-fault : goal.returns-in_err-told-clause-fault
returns-in_err-told-clause-fault g c =
    let task = c.args.task.now in
    let x = g.W.Sink.contents c.args.writer.now in
    let t = c.args.reader.now.tally in
    let p = err_from_is_err_and c.from_residual.result c.from_residual.ensures.1 in
    of_memory
    (λ fault. (rule : PartRule) (known written : Option (List ℕ)) → IsTold g.K.Asked.settings g.K.Asked.told rule known written x t → EndsBefore known (t.lines.reader.start + t.lines.reader.count) → AfterFault task known (λ _. ⊥) written x fault)
    c.from_residual.result p.0 p.1 p.2
    (λ rule known written h end.
    due g.K.Asked.settings g.K.Asked.told rule known c.ended_lines_of_a_reader.ensures.told task c.requires.settings c.requires.told written x t h c.requires.none_wait)

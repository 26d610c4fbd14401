use Rattle.std.proofs.Common.{◌≡◌, List, ℕ, ◌∙◌, ap, sym, subst}
use Rattle.std.specs.Io.KnownBytes.{Appends}
use Rattle.std.specs.Prelude.{Option}
use Rattle.std.proofs.lemmas.Result.{err_from_is_err_and}
use Rattle.jx_ends.specs.Ends.{AppendsBeginning}
use Rattle.jx_ndjson_report.specs.Output.{bad_lines}
use Rattle.jx_parallel.specs.declared.part_reader.PartRule.{PartRule}
use Rattle.jx_parallel_report.specs.LinesAt.{WroteLines}
use Rattle.jx_parallel_report.specs.inside.Lines.{AfterFault, IsTold, Telling}
use Rattle.jx_parallel_report.proofs.Lines.{in_part, of_memory, told_written}
use Rattle.jx_parallel_report.proofs.lines_report.write_waiting.Goals as goal

pub returns-in-Err-clause-fault : goal.returns-in-Err-clause-fault
returns-in-Err-clause-fault g c = λ rule known written start h.
    let task = c.args.task.now in
    let t = c.args.reader.now.tally in
    let words : c.deref.result.now ≡ g.K.Asked.told t.waiting = c.deref.ensures.value ∙ c.in_ok-words.ensures ∙ ap (bad_lines task) c.waiting.ensures ∙ sym (ap (λ (f : Telling). f t.waiting) c.requires.told) in
    in_part g.K.Asked.settings g.K.Asked.told rule known c.ended_lines_of_a_reader.ensures.told task c.requires.settings c.requires.told written
    (g.W.Sink.contents c.args.writer.now) (g.W.Sink.contents c.write_whole.new.writer) t h
    (subst (λ (l : List ℕ). AppendsBeginning (g.W.Sink.contents c.args.writer.now) (g.W.Sink.contents c.write_whole.new.writer) l) words c.in-Err.ensures.err)

pub returns-clause-told : goal.returns-clause-told
returns-clause-told g c = λ rule known written h.
    let task = c.args.task.now in
    let t = c.args.reader.now.tally in
    let words : c.deref.result.now ≡ g.K.Asked.told t.waiting = c.deref.ensures.value ∙ c.in_ok-words.ensures ∙ ap (bad_lines task) c.waiting.ensures ∙ sym (ap (λ (f : Telling). f t.waiting) c.requires.told) in
    told_written g.K.Asked.settings g.K.Asked.told rule known written
    (g.W.Sink.contents c.args.writer.now) (g.W.Sink.contents c.write_whole.new.writer) t c.clear_waiting.new.self.tally h
    (subst (λ (l : List ℕ). Appends (g.W.Sink.contents c.args.writer.now) (g.W.Sink.contents c.write_whole.new.writer) l) words c.in-Ok.ensures.ok)
    c.clear_waiting.ensures.read

pub returns-in_err-words-clause-fault : goal.returns-in_err-words-clause-fault
returns-in_err-words-clause-fault g c =
    let task = c.args.task.now in
    let x = g.W.Sink.contents c.args.writer.now in
    let p = err_from_is_err_and c.from_residual.result c.from_residual.ensures.1 in
    of_memory
    (λ fault. (rule : PartRule) (known written : Option (List ℕ)) → WroteLines task known written x → IsTold g.K.Asked.settings g.K.Asked.told rule known written x c.args.reader.now.tally → AfterFault task known (λ _. ⊥) written x fault)
    c.from_residual.result p.0 p.1 p.2 (λ rule known written start h. start)

use Rattle.std.proofs.Common.{◌≡◌, ◌+◌, ◌++◌, Option, sym, subst, ap, ◌∙◌}
use Rattle.std.specs.List.{AllZip}
use Rattle.jx_run.specs.declared.sequences.element_verdict.JudgedElement.{JudgedElement}
use Rattle.jx_run.specs.Elements.{elements}
use Rattle.jx_run.specs.ElementVerdict.{IsJudgedElement}
use Rattle.jx_run.specs.SequenceRead.{ended_there, listed}
use Rattle.jx_run.specs.Tree.{span}
use Rattle.jx_ndjson.specs.ElementReading.{ElementReaderValue, HasToldElements}
use Rattle.jx_ndjson.proofs.Sequences.{span_by, viewed}
use Rattle.jx_ndjson.proofs.element_reader.ElementReader.judged.Goals as goal

pub returns : goal.returns
returns c = λ settings input told h.
    let i = c.self.inside in
    let r : ElementReaderValue = record { mark = i.mark; first = i.first.items; reader = i.reader; open_ended = i.open_ended } in
    let o : HasToldElements settings input told r = viewed settings input told r c.args.self.now c.self.view_is h in
    let place = span_by c.start.result c.end.result r c.start.ensures c.end.ensures in
    let e : ended_there (span r.reader.start (r.reader.start + r.reader.count)) c.verdict.result r.open_ended ≡ c.ended_there.result =
    ap (λ s. ended_there s c.verdict.result r.open_ended) (sym place) ∙ sym c.ended_there.ensures in
    subst (λ (x : Option JudgedElement). AllZip (IsJudgedElement settings.depth) (elements 0 input) (o.judged ++ listed x)) e
    (c.elements_of_two_parts.ensures.ended settings.depth input o.judged r.reader r.open_ended c.verdict.result o.read c.verdict.ensures.verdict)

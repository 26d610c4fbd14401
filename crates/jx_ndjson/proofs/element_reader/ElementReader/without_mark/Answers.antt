use Rattle.std.proofs.Common.{sym, ap, ◌∙◌}
use Rattle.jx_ndjson.specs.ElementReading.{ElementReaderValue, HasToldElements}
use Rattle.jx_ndjson.specs.inside.ElementSteps.{is_passed_by}
use Rattle.jx_ndjson.proofs.Sequences.{last_told, mark_untold, span_by, viewed}
use Rattle.jx_ndjson.proofs.element_reader.ElementReader.without_mark.Goals as goal

pub returns-then-is_passed : goal.returns-then-is_passed
returns-then-is_passed c = λ settings input told h all.
    let i = c.self.inside in
    let r : ElementReaderValue = record { mark = i.mark; first = i.first.items; reader = i.reader; open_ended = i.open_ended } in
    let o : HasToldElements settings input told r = viewed settings input told r c.args.self.now c.self.view_is h in
    let place = span_by c.start.result c.end.result r c.start.ensures c.end.ensures in
    let long = c.elements_of_two_parts.ensures.reached settings.depth input o.judged r.reader r.open_ended o.read in
    let passed = c.is_passed.ensures input (c.end.ensures ∙ long) (λ at. c.deref.ensures.value ∙ o.first (sym c.start.ensures ∙ at)) in
    mark_untold settings input told r o (ap (λ s. is_passed_by r.mark input s) (sym place) ∙ sym passed ∙ c.if-is_passed.true)

pub returns-else-is_passed : goal.returns-else-is_passed
returns-else-is_passed c = λ settings input told h all.
    let i = c.self.inside in
    let r : ElementReaderValue = record { mark = i.mark; first = i.first.items; reader = i.reader; open_ended = i.open_ended } in
    let o : HasToldElements settings input told r = viewed settings input told r c.args.self.now c.self.view_is h in
    let place = span_by c.start.result c.end.result r c.start.ensures c.end.ensures in
    let long = c.elements_of_two_parts.ensures.reached settings.depth input o.judged r.reader r.open_ended o.read in
    let passed = c.is_passed.ensures input (c.end.ensures ∙ long) (λ at. c.deref.ensures.value ∙ o.first (sym c.start.ensures ∙ at)) in
    last_told settings input told r o c.args.judged (ap (λ s. is_passed_by r.mark input s) (sym place) ∙ sym passed ∙ c.if-is_passed.false) all

use Rattle.std.proofs.Common.{◌≡◌, ◌++◌, length, suc, refl, arith}
use Rattle.jx_run.specs.SequenceRead.{listed}
use Rattle.jx_ndjson.specs.ElementReading.{ElementReaderValue, HasToldElements}
use Rattle.jx_ndjson.proofs.Sequences.{ends_element, viewed}
use Rattle.jx_ndjson.proofs.element_reader.ElementReader.end_element.Goals as goal

pub returns-clause-told : goal.returns-clause-told
returns-clause-told c = λ settings input told h.
    let i = c.self.inside in
    let r : ElementReaderValue = record { mark = i.mark; first = i.first.items; reader = i.reader; open_ended = i.open_ended } in
    let o : HasToldElements settings input told r = viewed settings input told r c.args.self.now c.self.view_is h in
    let laws = c.elements_of_two_parts.ensures in
    let long = laws.reached settings.depth input o.judged r.reader r.open_ended o.read in
    let end = c.end-end.ensures in
    let start = c.reset.ensures.start in
    let all = c.judged-judged.ensures settings input told h in
    ends_element laws.marked settings input told (o.judged ++ listed c.judged-judged.result) r _ o c.without_mark-element.result (c.without_mark-element.ensures settings input told h all) all refl c.reset.ensures.settings
    (let e : c.reset.new.self.start ≡ suc (length input) = omega (arith, long, end, start) in e) c.reset.ensures.reads refl

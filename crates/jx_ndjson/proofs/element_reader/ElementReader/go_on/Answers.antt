use Rattle.std.proofs.Common.{◌≡◌, List, ℕ, sym, ap, refl, take, ◌∙◌}
use Rattle.jx_ndjson.specs.ElementReading.{ElementReaderValue}
use Rattle.jx_ndjson.proofs.Sequences.{longer_element}
use Rattle.jx_ndjson.proofs.element_reader.ElementReader.go_on.Goals as goal

pub returns-clause-told : goal.returns-clause-told
returns-clause-told c = λ settings input told h.
    let i = c.self.inside in
    let r : ElementReaderValue = record { mark = i.mark; first = i.first.items; reader = i.reader; open_ended = i.open_ended } in
    let same : r ≡ record c.args.self.now { first = r.first } = c.self.view_is ∙ c.in_ok-keep.ensures.rest ∙ ap (λ (xs : List ℕ). let v : ElementReaderValue = record c.args.self.now { first = xs } in v) (sym (ap (λ (v : ElementReaderValue). v.first) c.self.view_is)) in
    longer_element c.elements_of_two_parts.ensures.gone_on settings input (take c.args.to c.args.slice.now) told c.args.self.now r _ h c.requires.in_the_element same c.feed_beginning.ensures.settings c.feed_beginning.ensures.start c.in_ok-feed_beginning.ensures.reads
    c.ends_open_behind-self-inside.ensures
    (λ at. ap (λ (v : ElementReaderValue). v.first) c.self.view_is ∙ c.in_ok-keep.ensures.first input h.first (sym (ap (λ (v : ElementReaderValue). v.reader.start) c.self.view_is) ∙ sym c.feed_beginning.ensures.start ∙ at))
    refl refl

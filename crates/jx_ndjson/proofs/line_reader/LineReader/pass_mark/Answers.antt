use Rattle.std.proofs.Common.{◌≡◌, ◌+◌, arith, sym, subst, ap, refl, ◌∙◌}
use Rattle.jx_ndjson.specs.Reading.{IsOpen, LineReaderValue}
use Rattle.jx_ndjson.proofs.Fronts.{beyond, goes_in_front, passes_front}
use Rattle.jx_ndjson.proofs.Steps.{same_open}
use Rattle.jx_ndjson.proofs.line_reader.LineReader.pass_mark.Goals as goal

pub returns-then-end-eq-MARK-clause-told : goal.returns-then-end-eq-MARK-clause-told
returns-then-end-eq-MARK-clause-told c = λ settings input told h.
    let i = c.self.inside in
    let r : LineReaderValue = record { reader = i.reader; is_blank = i.is_blank; open_ended = i.open_ended; ended = i.ended; in_front = i.in_front } in
    passes_front settings input c.args.byte told c.args.self.now c.go_on.new.self c.begin.new.self h c.requires.in_front c.begin.ensures.in_front c.requires.next
    (λ at before o. c.in_ok-go_on.ensures.told settings at before told o)
    (subst (λ (v : LineReaderValue). v.reader.start + v.reader.count ≡ 3) c.self.view_is (sym c.end.ensures ∙ c.if-end-eq-MARK.true))
    (λ p o. c.begin.ensures.goes_on settings p (same_open settings p r _ refl refl refl (subst (λ (v : LineReaderValue). IsOpen settings p v) (sym c.self.view_is) o)) (beyond settings.mark 3 (omega arith)))
    (c.begin.ensures.ended ∙ ap (λ (v : LineReaderValue). v.ended) c.self.view_is ∙ c.go_on.ensures.ended)

pub returns-else-end-eq-MARK-clause-told : goal.returns-else-end-eq-MARK-clause-told
returns-else-end-eq-MARK-clause-told c = λ settings input told h.
    goes_in_front settings input c.args.byte told c.args.self.now c.go_on.new.self h c.requires.in_front (c.go_on.ensures.in_front ∙ c.requires.in_front) c.requires.next
    (λ at before o. c.in_ok-go_on.ensures.told settings at before told o)
    (λ e. c.if-end-eq-MARK.false (c.end.ensures ∙ subst (λ (v : LineReaderValue). v.reader.start + v.reader.count ≡ 3) (sym c.self.view_is) e))

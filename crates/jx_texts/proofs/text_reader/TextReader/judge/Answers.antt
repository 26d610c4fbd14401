use Rattle.std.proofs.Common.{sym, subst, ap, refl, ◌∙◌, Bool}
use Rattle.jx_run.specs.Reader.{is_fault}
use Rattle.jx_texts.specs.Reading.{TextReaderValue}
use Rattle.jx_texts.specs.inside.Steps.{HasFed}
use Rattle.jx_texts.proofs.Lists.{clash}
use Rattle.jx_texts.proofs.Told.{judged_on}
use Rattle.jx_texts.proofs.text_reader.TextReader.judge.Goals as goal

pub returns-then-is_done-clause-told : goal.returns-then-is_done-clause-told
returns-then-is_done-clause-told c = λ limit at bytes told h. c.lose.ensures.told limit at bytes told c.args.may_end h

pub returns-then-may_end-clause-told : goal.returns-then-may_end-clause-told
returns-then-may_end-clause-told c = λ limit at bytes told h. c.end_closed.ensures.told limit at bytes told (subst (λ (b : Bool). HasFed limit at bytes told b c.args.self.now) c.if-may_end.true h)

pub returns-clause-told : goal.returns-clause-told
returns-clause-told c = λ limit at bytes told h.
    let same = ap (λ (v : TextReaderValue). is_fault v.reader.outcome) c.self.view_is in
    judged_on c.reader_and_grammar.ensures.verdict limit at bytes told c.args.may_end c.args.self.now h _ refl refl (sym same ∙ sym c.is_done.ensures ∙ c.if-is_done.false)
    (λ m v. clash m c.if-may_end.false)

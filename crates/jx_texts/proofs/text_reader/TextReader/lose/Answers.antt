use Rattle.std.proofs.Common.{sym, subst, ap, refl, ◌∙◌}
use Rattle.jx_run.specs.Reader.{is_fault}
use Rattle.jx_texts.specs.Reading.{TextReaderValue}
use Rattle.jx_texts.specs.inside.Steps.{HasFed}
use Rattle.jx_texts.proofs.Told.{judged_lost}
use Rattle.jx_texts.proofs.text_reader.TextReader.lose.Goals as goal

pub returns-clause-told : goal.returns-clause-told
returns-clause-told c = λ limit at bytes told may_end h.
    let i = c.self.inside in
    let r : TextReaderValue = record { reader = i.reader; stage = i.stage } in
    let k : HasFed limit at bytes told may_end r = subst (λ (v : TextReaderValue). HasFed limit at bytes told may_end v) (sym c.self.view_is) h in
    let fault = ap (λ (v : TextReaderValue). is_fault v.reader.outcome) c.self.view_is ∙ c.requires.fault in
    judged_lost c.reader_and_grammar.ensures.verdict limit at bytes told may_end r k _ c.refused.result refl refl fault
    (c.refused.ensures.listed limit _ k.by k.read)

use Rattle.std.proofs.Common.{sym, ap, ◌∙◌}
use Rattle.jx_run.specs.Reader.{is_fault}
use Rattle.jx_texts.specs.Reading.{TextReaderValue}
use Rattle.jx_texts.proofs.Faults.{told_so_far, untold_so_far}
use Rattle.jx_texts.proofs.text_reader.TextReader.refused.Goals as goal

pub returns-then-is_done-clause-listed : goal.returns-then-is_done-clause-listed
returns-then-is_done-clause-listed c = λ limit bytes by h.
    let same = ap (λ (v : TextReaderValue). is_fault v.reader.outcome) c.self.view_is in
    told_so_far limit bytes c.args.self.now.reader c.text_now.result by h (c.text_now.ensures limit bytes by h) (sym same ∙ sym c.is_done.ensures ∙ c.if-is_done.true)

pub returns-else-is_done-clause-listed : goal.returns-else-is_done-clause-listed
returns-else-is_done-clause-listed c = λ limit bytes by h.
    let same = ap (λ (v : TextReaderValue). is_fault v.reader.outcome) c.self.view_is in
    untold_so_far limit bytes c.args.self.now.reader by h (sym same ∙ sym c.is_done.ensures ∙ c.if-is_done.false)

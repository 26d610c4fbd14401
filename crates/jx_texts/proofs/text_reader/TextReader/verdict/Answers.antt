use Rattle.std.proofs.Common.{◌≡◌, sym, subst, ap, ◌∙◌}
use Rattle.jx_run.specs.Reader.{HasRead, ReaderValue}
use Rattle.jx_texts.specs.Reading.{TextReaderValue, verdict_now}
use Rattle.jx_texts.proofs.Faults.{verdict_so_far}
use Rattle.jx_texts.proofs.text_reader.TextReader.verdict.Goals as goal

pub returns : goal.returns
returns c = λ limit bytes by h.
    let i = c.self.inside in
    let same = ap (λ (v : TextReaderValue). v.reader) c.self.view_is in
    subst (λ (r : ReaderValue). c.verdict.result ≡ verdict_now limit r.start bytes) same
    (verdict_so_far c.reader_and_grammar.ensures.by_settings limit bytes i.reader c.verdict.result (ap (λ (r : ReaderValue). r.settings) same ∙ by)
    (c.verdict.ensures.verdict bytes (subst (λ (r : ReaderValue). HasRead bytes r) (sym same) h)))

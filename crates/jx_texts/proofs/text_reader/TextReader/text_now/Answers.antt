use Rattle.std.proofs.Common.{◌+◌, ap, ◌∙◌}
use Rattle.jx_run.specs.Reader.{ReaderValue}
use Rattle.jx_texts.specs.Texts.{read_to}
use Rattle.jx_texts.specs.Reading.{TextReaderValue}
use Rattle.jx_texts.proofs.Faults.{text_so_far}
use Rattle.jx_texts.proofs.text_reader.TextReader.text_now.Goals as goal

pub returns : goal.returns
returns c = λ limit bytes by h.
    let same = ap (λ (v : TextReaderValue). v.reader) c.self.view_is in
    text_so_far limit bytes c.args.self.now.reader c.verdict-verdict.result c.start.result c.read_to.result h (c.verdict-verdict.ensures limit bytes by h)
    (c.start.ensures ∙ ap (λ (r : ReaderValue). r.start) same)
    (c.read_to.ensures ∙ ap (λ n. read_to c.verdict-verdict.result n) (c.end.ensures ∙ ap (λ (r : ReaderValue). r.start + r.count) same))

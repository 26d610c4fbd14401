use Rattle.std.proofs.Common.{sym, subst}
use Rattle.jx_run.specs.Reader.{ReaderValue, HasRead}
use Rattle.jx_run.specs.ReaderInside.{reader_of}
use Rattle.jx_run.specs.Settings.{JudgedBy}
use Rattle.jx_run.proofs.readers.reader.Reader.verdict.Goals as goal

pub returns-clause-verdict : goal.returns-clause-verdict
returns-clause-verdict c = λ bytes h.
    let a = c.self.inside in
    let k : HasRead bytes (reader_of a) = subst (HasRead bytes) (sym c.self.view_is) h in
    subst (λ (v : ReaderValue). JudgedBy v.settings v.start bytes c.verdict_at.result) c.self.view_is
    (c.verdict_at.ensures.verdict a.settings a.start bytes a.stack.reading c.whole.ensures k.outcome)

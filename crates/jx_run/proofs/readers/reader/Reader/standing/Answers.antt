use Rattle.std.proofs.Common.{◌≡◌, ap, Some, ◌∙◌}
use Rattle.jx_run.specs.Reader.{ReaderValue}
use Rattle.jx_run.specs.ReaderInside.{outcome_at}
use Rattle.jx_run.proofs.Standing.{standing_went}
use Rattle.jx_run.proofs.readers.reader.Reader.standing.Goals as goal

pub returns-in-Going-Went : goal.returns-in-Going-Went
returns-in-Going-Went c = λ now is.
    let a = c.self.inside in
    let came : outcome_at a.progress a.stack.reading ≡ Some now = ap (λ (v : ReaderValue). v.outcome) c.self.view_is ∙ is in
    standing_went a.stack.reading a.progress c.whole.result c.in-Going-Went.state c.in-Going-Went.expect c.in-Going-Went.open-1 now c.in-Going-Went.is-0 c.in-Going-Went.is-1 c.whole.ensures came

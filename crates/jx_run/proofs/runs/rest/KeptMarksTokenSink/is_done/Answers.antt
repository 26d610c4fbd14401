use Rattle.std.proofs.Common.{ap, ◌++◌}
use Rattle.jx_run.proofs.runs.rest.KeptMarksTokenSink.is_done.Goals as goal

pub returns : goal.returns
returns c = λ done marks more ends others seen.
    record {
      reduced = c.is_over.ensures done marks more seen.reduced;
      rest = seen.rest ++ others;
      depth = ap (λ es. es ++ others) seen.depth;
    }

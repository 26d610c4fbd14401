use Rattle.std.proofs.Common.{ap, ◌∙◌}
use Rattle.jx_run.specs.ReaderInside.{outcome_at}
use Rattle.jx_run.specs.declared.readers.progress.Progress.{Progress}
use Rattle.jx_c.specs.Stack.{known_of}
use Rattle.jx_c.proofs.streams.reader.JxReader.verdict.Goals as goal

pub returns : goal.returns
returns c = λ settings fed h.
    let reading = (known_of c.args.self.now.stack).reading in
    c.verdict_at.ensures.verdict settings 0 fed reading c.whole.ensures (ap (λ (p : Progress). outcome_at p reading) c.progress.ensures.progress ∙ h.read.outcome)

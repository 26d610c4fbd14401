use Rattle.std.proofs.Common.{◌∙◌}
use Rattle.jx_run.proofs.ReaderFeeds.{at_start}
use Rattle.jx_run.proofs.readers.progress.progress_at_start.Goals as goal

pub returns-in-Refused-clause-read : goal.returns-in-Refused-clause-read
returns-in-Refused-clause-read c = λ settings start stack is deep h. at_start settings start stack (is ∙ c.in-Refused.is) deep h

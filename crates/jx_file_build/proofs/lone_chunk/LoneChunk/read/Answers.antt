use Rattle.std.proofs.Common.{List, ℕ, subst}
use Rattle.jx_run.specs.OutcomeRun.{IsOutcomeRun}
use Rattle.jx_run.proofs.ReaderSteps.{slice_all}
use Rattle.jx_file_build.specs.LoneChunk.{IsReadAlone}
use Rattle.jx_file_build.proofs.lone_chunk.LoneChunk.read.Goals as goal

pub behind-requires-clause-run : goal.behind-requires-clause-run
behind-requires-clause-run c = subst (λ (xs : List ℕ). IsOutcomeRun xs c.in_ok-run.run') (slice_all c.args.chunk.now) c.in_ok-run.ensures.of

pub returns : goal.returns
returns c = subst (λ (n : ℕ). IsReadAlone n c.args.chunk.now c.in_ok-lone.lone) c.in_ok-run.ensures.depth c.in_ok-lone.ensures

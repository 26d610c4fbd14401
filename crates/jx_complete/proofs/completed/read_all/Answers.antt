use Rattle.std.proofs.Common.{[], refl}
use Rattle.jx_complete.proofs.completed.read_all.Goals as goal

pub returns-clause-reads : goal.returns-clause-reads
returns-clause-reads c =
    c.in_ok-progress.ensures.reads c.args.settings.now 0 [] refl
    (c.progress_at_start-progress.ensures.read c.args.settings.now 0 c.new-stack.result refl c.new-stack.ensures.depth c.new-stack.ensures.reads)

use Rattle.std.proofs.Common.{ℕ, subst}
use Rattle.jx_run.specs.Reader.{HasRead, ReaderValue}
use Rattle.jx_run.specs.Settings.{JudgedBy}
use Rattle.jx_values.proofs.sought.verdict_of.Goals as goal

pub returns : goal.returns
returns c = λ content pointer text given h.
    subst (λ (n : ℕ). JudgedBy c.args.each.now.reader.settings n text c.verdict.result) h.at_start
    (subst (λ (r : ReaderValue). HasRead text r → JudgedBy r.settings r.start text c.verdict.result) c.reader.ensures (c.verdict.ensures.verdict text) h.read)

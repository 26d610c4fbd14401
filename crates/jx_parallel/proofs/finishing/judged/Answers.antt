use Rattle.std.proofs.Common.{subst, sym}
use Rattle.jx_parallel.specs.Offsets.{EndsBefore}
use Rattle.jx_parallel.specs.Verdict.{IsVerdictOn}
use Rattle.jx_parallel.proofs.Decided.{at_end}
use Rattle.jx_parallel.proofs.finishing.judged.Goals as goal

pub returns : goal.returns
returns g c =
    let end = subst (λ known. EndsBefore known c.args.lead.count) (sym c.requires.text) c.requires.end in
    subst (λ known. IsVerdictOn known g.K.Known.settings c.verdict.result) c.requires.text
    (at_end g.K.Known.text g.K.Known.settings c.args.lead.count c.verdict.result c.verdict.ensures end)

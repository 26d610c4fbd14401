use Rattle.std.proofs.Common.{◌≡◌, true}
use Rattle.jx_run.specs.Reader.{is_fault}
use Rattle.jx_parallel.proofs.Decided.{decides}
use Rattle.jx_parallel.proofs.lead.Lead.decided.Goals as goal

pub returns : goal.returns
returns g c =
    let fault : is_fault c.self.inside.reader.outcome ≡ true = cc in
    decides c.reader_and_grammar.ensures.by_settings c.unique_verdict_by_settings.ensures.one_verdict g.K.Known.text g.K.Known.settings c.self.inside.reader c.verdict.result c.self.invariant fault
    c.verdict.ensures.verdict

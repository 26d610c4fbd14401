use Rattle.std.proofs.Common.{◌∙◌, ap}
use Rattle.jx_ndjson_report.specs.inside.LinePasser.{LinePasserValue}
use Rattle.jx_ndjson_report.proofs.Passes.{passes_gives}
use Rattle.jx_ndjson_report.proofs.line_passer.LinePasser.clear.Goals as goal

pub returns-clause-taken : goal.returns-clause-taken
returns-clause-taken c = λ task bytes given said h.
    let new : LinePasserValue = record { teller = c.clear-2.new.self; kept = c.self.inside.kept.items; ready = c.clear.new.self.items } in
    passes_gives task bytes given said c.args.self.now new h
    (c.clear-2.ensures.lines ∙ ap (λ (p : LinePasserValue). p.teller.lines) c.self.view_is)
    (c.clear-2.ensures.good ∙ ap (λ (p : LinePasserValue). p.teller.good) c.self.view_is)
    (c.clear-2.ensures.bad ∙ ap (λ (p : LinePasserValue). p.teller.bad) c.self.view_is)
    c.clear-2.ensures.ready
    (ap (λ (p : LinePasserValue). p.kept) c.self.view_is)
    c.clear.ensures.items

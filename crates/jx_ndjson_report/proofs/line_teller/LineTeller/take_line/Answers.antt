use Rattle.jx_ndjson_report.proofs.line_teller.LineTeller.take_line.Goals as goal

pub returns-clause-taken : goal.returns-clause-taken
returns-clause-taken c = λ bytes given h. (c.in_ok-step.ensures.taken bytes given h).0

use Rattle.std.proofs.Common.{inl}
use Rattle.jx_ndjson_report.proofs.Takes.{due}
use Rattle.jx_ndjson_report.proofs.line_teller.LineTellerReporterUnit.what_waits_is_due.Goals as goal

pub returns-clause-due : goal.returns-clause-due
returns-clause-due c = λ task was now bytes given t h _. due c.ended_lines_of_a_reader.ensures.told task bytes given t h

pub returns-clause-begun : goal.returns-clause-begun
returns-clause-begun c = λ task was now bytes given t h. inl (due c.ended_lines_of_a_reader.ensures.told task bytes given t h)

use Rattle.jx_line_values.proofs.Tells.{begun_at_end, begun_now, due_now}
use Rattle.jx_line_values.proofs.values_teller.ValuesTellerReporter.what_waits_is_due.Goals as goal

pub returns-clause-due : goal.returns-clause-due
returns-clause-due g c = λ task was now bytes given t h quiet. due_now task (g.E.Sink.has_failed now) (g.E.Sink.contents was) (g.E.Sink.contents now) bytes given t h quiet

pub returns-clause-begun : goal.returns-clause-begun
returns-clause-begun g c = λ task was now bytes given t h. begun_now task (g.E.Sink.has_failed now) (g.E.Sink.contents was) (g.E.Sink.contents now) bytes given t h

pub returns-clause-ended : goal.returns-clause-ended
returns-clause-ended g c = λ task was now bytes given exit t h. begun_at_end task (g.E.Sink.has_failed now) (g.E.Sink.contents was) (g.E.Sink.contents now) bytes given t exit h

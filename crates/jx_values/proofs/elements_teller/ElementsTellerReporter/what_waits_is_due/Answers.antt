use Rattle.jx_values.proofs.ElementsTold.{due}
use Rattle.jx_values.proofs.elements_teller.ElementsTellerReporter.what_waits_is_due.Goals as goal

pub returns-clause-due : goal.returns-clause-due
returns-clause-due g c = λ task was now bytes given t h quiet.
    (h.0, due task.by_texts task.content task.settings task.pointer.now bytes given t h.1 (c.lines_taken_and_waiting.ensures.due_by task.content))

pub returns-clause-begun : goal.returns-clause-begun
returns-clause-begun g c = λ task was now bytes given t h.
    (h.0, due task.by_texts task.content task.settings task.pointer.now bytes given t h.1 (c.lines_taken_and_waiting.ensures.due_by task.content))

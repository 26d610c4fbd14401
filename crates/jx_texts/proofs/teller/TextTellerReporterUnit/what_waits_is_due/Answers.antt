use Rattle.std.proofs.Common.{inl}
use Rattle.jx_texts.proofs.Takes.{due}
use Rattle.jx_texts.proofs.teller.TextTellerReporterUnit.what_waits_is_due.Goals as goal

pub returns-clause-due : goal.returns-clause-due
returns-clause-due c = λ task was now bytes given t h _. due c.settled_texts_of_a_reader.ensures.told task bytes given t h

pub returns-clause-begun : goal.returns-clause-begun
returns-clause-begun c = λ task was now bytes given t h. inl (due c.settled_texts_of_a_reader.ensures.told task bytes given t h)

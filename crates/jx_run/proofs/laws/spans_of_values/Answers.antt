use Rattle.jx_run.proofs.LawProofs.{place_law}
use Rattle.jx_run.proofs.Spans.{reads_of}
use Rattle.jx_run.proofs.laws.spans_of_values.Goals as goal

pub returns-clause-span : goal.returns-clause-span
returns-clause-span c = place_law

pub returns-clause-reads : goal.returns-clause-reads
returns-clause-reads c = λ text i j rest tree v. reads_of text i v

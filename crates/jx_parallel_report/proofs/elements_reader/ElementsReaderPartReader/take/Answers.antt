use Rattle.jx_parallel_report.proofs.elements_reader.ElementsReaderPartReader.take.Goals as goal

pub returns-clause-taken : goal.returns-clause-taken
returns-clause-taken c = λ is xs ys given h len p. c.in_ok-take_in.ensures.taken xs ys h len p

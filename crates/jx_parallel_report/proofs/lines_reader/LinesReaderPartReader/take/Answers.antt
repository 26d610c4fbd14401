use Rattle.jx_parallel_report.proofs.Lines.{takes_part}
use Rattle.jx_parallel_report.proofs.lines_reader.LinesReaderPartReader.take.Goals as goal

pub returns-clause-taken : goal.returns-clause-taken
returns-clause-taken g c = λ is xs ys given h len p.
    takes_part g.K.Asked.settings g.K.Asked.told c.args._rule.now c.args.self.now.tally c.take_whole.new.self c.args.part c.in_ok-take_whole.ensures.taken xs ys given h p

use Rattle.jx_parallel_report.proofs.Lines.{clears}
use Rattle.jx_parallel_report.proofs.lines_reader.LinesReader.clear_waiting.Goals as goal

pub returns-clause-read : goal.returns-clause-read
returns-clause-read g c = λ rule xs written h.
    clears g.K.Asked.settings g.K.Asked.told c.requires.told rule c.args.self.now.tally c.clear_waiting.new.self c.clear_waiting.ensures.taken xs written h

use Rattle.std.proofs.Common.{◌∙◌}
use Rattle.jx_parallel_report.proofs.Lines.{reached_by}
use Rattle.jx_parallel_report.proofs.lines_reader.LinesReaderPartReader.end.Goals as goal

pub returns-clause-length : goal.returns-clause-length
returns-clause-length g c = λ rule xs given h. c.end.ensures ∙ reached_by g.K.Asked.settings g.K.Asked.told rule xs given c.args.self.now.tally h

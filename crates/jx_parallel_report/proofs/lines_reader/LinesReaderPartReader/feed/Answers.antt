use Rattle.std.proofs.lemmas.Result.{on_ok_weaker}
use Rattle.jx_parallel_report.proofs.Lines.{reads_on}
use Rattle.jx_parallel_report.proofs.lines_reader.LinesReaderPartReader.feed.Goals as goal

pub returns : goal.returns
returns g c = record {
  read = on_ok_weaker c.feed.result
      (reads_on g.K.Asked.settings g.K.Asked.told c.args._rule.now c.args.self.now.tally c.feed.new.self c.args.bytes.now)
      c.feed.ensures.taken;
}

use Rattle.std.proofs.Common.{◌∙◌}
use Rattle.jx_parallel_report.proofs.elements_reader.ElementsReaderPartReader.end.Goals as goal

pub returns-clause-length : goal.returns-clause-length
returns-clause-length c = λ rule xs given h.
    let r = c.args.self.now in
    c.end.ensures ∙ c.elements_of_two_parts.ensures.reached rule.depth xs h.judged r.reader r.open_ended h.read

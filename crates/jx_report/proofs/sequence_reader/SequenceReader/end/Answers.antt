use Rattle.std.proofs.Common.{◌∙◌}
use Rattle.jx_report.proofs.sequence_reader.SequenceReader.end.Goals as goal

pub returns-clause-length : goal.returns-clause-length
returns-clause-length c = λ settings text h.
    let sequence = c.args.self.now in
    c.end.ensures ∙ c.elements_of_two_parts.ensures.reached settings.depth text h.read.told sequence.reader sequence.open_ended h.read.read

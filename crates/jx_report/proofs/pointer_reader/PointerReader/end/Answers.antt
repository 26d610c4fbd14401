use Rattle.std.proofs.Common.{◌∙◌}
use Rattle.jx_report.proofs.PointerReads.{as_long}
use Rattle.jx_report.proofs.pointer_reader.PointerReader.end.Goals as goal

pub returns-clause-length : goal.returns-clause-length
returns-clause-length c = λ settings spelt text h. c.end.ensures ∙ as_long settings spelt text c.args.self.now h

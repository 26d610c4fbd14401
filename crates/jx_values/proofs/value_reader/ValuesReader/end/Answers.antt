use Rattle.std.proofs.Common.{◌∙◌}
use Rattle.jx_values.proofs.Looks.{as_long}
use Rattle.jx_values.proofs.value_reader.ValuesReader.end.Goals as goal

pub returns : goal.returns
returns c = λ settings spelt text h. c.end.ensures ∙ as_long settings spelt text c.args.self.now h

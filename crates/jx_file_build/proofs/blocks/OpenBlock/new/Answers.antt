use Rattle.jx_file_build.proofs.Fitting.{none_fit}
use Rattle.jx_file_build.proofs.blocks.OpenBlock.new.Goals as goal

pub returns-clause-fits : goal.returns-clause-fits
returns-clause-fits c = none_fit c.new.result.items c.new.ensures.items

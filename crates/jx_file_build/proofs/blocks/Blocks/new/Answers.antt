use Rattle.jx_file_build.proofs.Filling.{none_filled}
use Rattle.jx_file_build.proofs.Fitting.{no_tables}
use Rattle.jx_file_build.proofs.blocks.Blocks.new.Goals as goal

pub returns-clause-are : goal.returns-clause-are
returns-clause-are c = none_filled c.new.result.items c.new-2.result c.new.ensures.items

pub returns-clause-fits : goal.returns-clause-fits
returns-clause-fits c = record { tables = no_tables c.new.result.items c.new.ensures.items; last = c.new-2.ensures.fits }

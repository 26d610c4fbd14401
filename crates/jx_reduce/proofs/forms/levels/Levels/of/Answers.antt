use Rattle.std.proofs.Common.{sym, subst}
use Rattle.jx_reduce.specs.Fits.{Fits}
use Rattle.jx_reduce.specs.inside.Quiet.{GoesOn}
use Rattle.jx_reduce.proofs.Exits.{GoesOn-of_nothing}
use Rattle.jx_reduce.proofs.Readings.{Fits-of_nothing}
use Rattle.jx_reduce.proofs.forms.levels.Levels.of.Goals as goal

pub read_on-requires-clause-fits : goal.read_on-requires-clause-fits
read_on-requires-clause-fits c = subst (Fits c.args.depth) (sym c.new.ensures) (Fits-of_nothing c.args.depth c.args.entry)

pub read_on-requires-clause-goes_on : goal.read_on-requires-clause-goes_on
read_on-requires-clause-goes_on c = subst GoesOn (sym c.new.ensures) (GoesOn-of_nothing c.args.entry)

use Rattle.jx_serve.proofs.Sounds.{decimal_number}
use Rattle.jx_serve.proofs.value_words.add_number.Goals as goal

pub returns-clause-number : goal.returns-clause-number
returns-clause-number c = decimal_number c.args.number c.ranges.number.fits

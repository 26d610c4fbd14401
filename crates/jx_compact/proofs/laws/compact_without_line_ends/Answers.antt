use Rattle.jx_compact.specs.declared.place.Place.TheVariants.{Between}
use Rattle.jx_compact.proofs.Compacts.{one_line}
use Rattle.jx_compact.proofs.laws.compact_without_line_ends.Goals as goal

pub returns : goal.returns
returns c = one_line Between

use Rattle.jx_compact.specs.declared.place.Place.TheVariants.{Between}
use Rattle.jx_compact.proofs.Compacts.{again}
use Rattle.jx_compact.proofs.laws.compact_idempotence.Goals as goal

pub returns : goal.returns
returns c bytes = again Between bytes

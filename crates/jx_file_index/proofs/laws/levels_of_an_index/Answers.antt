use Rattle.jx_file_index.proofs.Counts.{levels_had}
use Rattle.jx_file_index.proofs.laws.levels_of_an_index.Goals as goal

pub returns : goal.returns
returns c = record { has = levels_had }

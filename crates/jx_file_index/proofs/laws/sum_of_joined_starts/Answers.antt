use Rattle.jx_file_index.proofs.Sums.{sums_join}
use Rattle.jx_file_index.proofs.laws.sum_of_joined_starts.Goals as goal

pub returns : goal.returns
returns c = record { joined = sums_join }

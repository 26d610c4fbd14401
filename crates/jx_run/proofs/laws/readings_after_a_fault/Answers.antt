use Rattle.jx_reduce.proofs.KnownMoves.{seen_done}
use Rattle.jx_run.proofs.laws.readings_after_a_fault.Goals as goal

pub returns : goal.returns
returns c = record { done = seen_done }

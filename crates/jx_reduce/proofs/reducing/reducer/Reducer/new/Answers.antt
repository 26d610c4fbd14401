use Rattle.std.proofs.Common.{◌≤◌, ◌<◌}
use Rattle.jx_reduce.proofs.Structures.{AreIn_more}
use Rattle.jx_reduce.proofs.reducing.reducer.Reducer.new.Goals as goal

pub behind-requires : goal.behind-requires
behind-requires c = record { below = AreIn_more (λ p. (0 ≤ p) × (p < 0)) (λ p. p < 0) c.new.result (λ p h. h.1) (c.new.ensures.offsets 0 0) }

use Rattle.std.proofs.Common.{◌≡◌}
use Rattle.jx_file_index.specs.Digest.{lanes_after}
use Rattle.jx_file_index.proofs.digest.lanes_after.Given as goal

abbrev pub invariant-stripes : goal.invariant-stripes
invariant-stripes l = l.lanes ≡ lanes_after l.bytes l.n

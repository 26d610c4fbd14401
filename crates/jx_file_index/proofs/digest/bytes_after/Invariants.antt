use Rattle.std.proofs.Common.{◌≡◌}
use Rattle.jx_file_index.specs.Digest.{bytes_after}
use Rattle.jx_file_index.proofs.digest.bytes_after.Given as goal

abbrev pub invariant-bytes : goal.invariant-bytes
invariant-bytes l = l.read ≡ bytes_after l.bytes l.at l.hash l.n

use Rattle.std.proofs.Common.{◌≡◌}
use Rattle.jx_file_index.specs.Digest.{words_after}
use Rattle.jx_file_index.proofs.digest.words_after.Given as goal

abbrev pub invariant-words : goal.invariant-words
invariant-words l = l.read ≡ words_after l.bytes l.at l.hash l.n

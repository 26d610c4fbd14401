-- The bytes that are left decide.
use Rattle.std.proofs.Common.{◌≡◌, drop}
use Rattle.jx_values.specs.inside.Tally.{all_line_feeds}
use Rattle.jx_values.proofs.tally.all_line_feeds.Given as goal

abbrev pub invariant-loop-byte : goal.invariant-loop-byte
invariant-loop-byte l = all_line_feeds l.bytes ≡ all_line_feeds (drop l.byte-index l.bytes)

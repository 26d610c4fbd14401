-- The bytes that stay so far, and those of the rest, are all.
use Rattle.std.proofs.Common.{◌≡◌, ◌+◌, ◌≤◌, length, drop}
use Rattle.jx_compact.specs.Compact.{compact, compact_from}
use Rattle.jx_compact.proofs.placing.compact_len.Given as goal

abbrev pub invariant-loop-byte : goal.invariant-loop-byte
invariant-loop-byte l = record {
  len : l.len + length (compact_from l.place (drop l.byte-index l.bytes)) ≡ length (compact l.bytes);
  low : l.len ≤ l.byte-index;
}

-- What was made so far, and what the rest makes, are all.
use Rattle.std.proofs.Common.{◌≡◌, ◌+◌, ◌≤◌, ◌++◌, length, drop, vec_len}
use Rattle.std.specs.Prelude.{vec_capacity}
use Rattle.jx_compact.specs.Compact.{compact_from, place_behind}
use Rattle.jx_compact.proofs.compacting.compact_each.Given as goal

abbrev pub invariant-loop-byte : goal.invariant-loop-byte
invariant-loop-byte l = record {
  items : l.out.items ++ compact_from l.place (drop l.byte-index l.bytes) ≡ l.initial.out.items ++ compact_from l.initial.place l.bytes;
  behind : place_behind l.place (drop l.byte-index l.bytes) ≡ place_behind l.initial.place l.bytes;
  room : vec_len l.out + length l.bytes ≤ vec_capacity l.out + l.byte-index;
  grown : vec_capacity l.initial.out ≤ vec_capacity l.out;
}

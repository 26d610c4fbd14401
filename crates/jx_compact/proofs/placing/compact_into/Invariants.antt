-- What stays so far stands in front, and what stays of the rest makes it whole.
use Rattle.std.proofs.Common.{◌≡◌, ◌+◌, ◌++◌, length, take, drop}
use Rattle.jx_compact.specs.Compact.{compact, compact_from}
use Rattle.jx_compact.proofs.placing.compact_into.Given as goal

abbrev pub invariant-loop-byte : goal.invariant-loop-byte
invariant-loop-byte l = record {
  len : l.len + length (compact_from l.place (drop l.byte-index l.bytes)) ≡ length (compact l.bytes);
  front : take l.len l.out ++ compact_from l.place (drop l.byte-index l.bytes) ≡ compact l.bytes;
  back : drop l.len l.out ≡ drop l.len l.initial.out;
}

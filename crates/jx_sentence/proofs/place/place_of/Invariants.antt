-- The place behind the bytes so far; each of them is at most one line or one column more.
use Rattle.std.proofs.Common.{◌≡◌, ◌+◌, ◌≤◌, take}
use Rattle.jx_sentence.specs.Places.{first_place, place_behind}
use Rattle.jx_sentence.proofs.place.place_of.Given as goal

abbrev pub invariant-loop-byte : goal.invariant-loop-byte
invariant-loop-byte l = record {
  is : l.place ≡ place_behind first_place (take l.byte-index l.before);
  line : l.place.line ≤ l.byte-index + 1;
  column : l.place.column ≤ l.byte-index + 1;
}

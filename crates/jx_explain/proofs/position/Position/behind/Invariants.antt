-- Where the next byte stands; each of those so far is at most one line or one column more.
use Rattle.std.proofs.Common.{◌≡◌, ◌+◌, ◌≤◌, take}
use Rattle.jx_sentence.specs.Places.{place_behind}
use Rattle.jx_explain.specs.Columns.{column_behind}
use Rattle.jx_explain.proofs.position.Position.behind.Given as goal

abbrev pub invariant-loop-byte : goal.invariant-loop-byte
invariant-loop-byte l = record {
  place_is : l.place ≡ place_behind l.fn.self.place (take l.byte-index l.bytes);
  column_is : l.column ≡ column_behind l.fn.self.byte (take l.byte-index l.bytes);
  line : l.place.line ≤ l.fn.self.place.line + l.byte-index;
  character : l.place.column ≤ l.fn.self.place.column + l.byte-index;
  byte : l.column ≤ l.fn.self.byte + l.byte-index;
}

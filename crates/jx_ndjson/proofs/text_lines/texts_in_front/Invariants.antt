-- The lines so far are texts.
use Rattle.std.proofs.Common.{◌≡◌, ◌≤◌, length, take}
use Rattle.jx_ndjson.specs.inside.Texts.{AreTexts}
use Rattle.jx_ndjson.proofs.text_lines.texts_in_front.Given as goal

abbrev pub invariant-loop : goal.invariant-loop
invariant-loop l = record {
  depth : l.stack.depth ≡ l.fn.depth;
  within : l.len ≤ length l.slice;
  few : l.count ≤ l.len;
  texts : AreTexts l.fn.depth (take l.len l.slice) l.count;
}

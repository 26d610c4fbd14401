use Rattle.std.proofs.Common.{◌≡◌, ◌≤◌, length, take}
use Rattle.jx_sentence.specs.Words.{names_of}
use Rattle.jx_sentence.proofs.sentence.count.Given as goal

abbrev pub invariant-loop-choice : goal.invariant-loop-choice
invariant-loop-choice l = record {
  so_far : l.count ≡ length (names_of (take l.choice-index l.choices));
  few : l.count ≤ l.choice-index;
}

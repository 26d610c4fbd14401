-- The names so far are written, which the others follow.
use Rattle.std.proofs.Common.{◌≡◌, ◌+◌, ◌++◌, length, take}
use Rattle.std.specs.String.{string_bytes}
use Rattle.jx_sentence.specs.Words.{listed_before, names_of}
use Rattle.jx_sentence.proofs.sentence.push_names.Given as goal

abbrev pub invariant-loop-choice : goal.invariant-loop-choice
invariant-loop-choice l = record {
  left : l.left + length (names_of (take l.choice-index l.choices)) ≡ length (names_of l.choices) + l.after;
  written : string_bytes l.out ≡ string_bytes l.fn.out ++ listed_before l.left (names_of (take l.choice-index l.choices));
}

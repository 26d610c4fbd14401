-- The strings so far.
use Rattle.std.proofs.Common.{take, map}
use Rattle.std.specs.Prelude.{string_bytes}
use Rattle.jx_words.specs.inside.ReadPointers.{AreReadPointers}
use Rattle.jx_words.proofs.pointer_answer.read_pointers.Given as goal

abbrev pub invariant-loop-word : goal.invariant-loop-word
invariant-loop-word l = AreReadPointers (map string_bytes (take l.word-index l.spelt)) l.pointers.items l.unread.items

use Rattle.std.proofs.Common.{suc, ◌-◌, ℕ, List, length}
use Rattle.jx_serve.specs.inside.Sound.{AreRanges}
use Rattle.jx_serve.proofs.selection_words.begin_parents.Given as goal

-- those behind the number are open
abbrev pub invariant-loop-number : goal.invariant-loop-number
invariant-loop-number l = (before : List ℕ) → AreRanges 1 before l.initial.out.items → AreRanges (suc (length l.outer - l.number)) before l.out.items

use Rattle.std.proofs.Common.{◌≡◌, ◌++◌}
use Rattle.jx_serve.specs.inside.Sound.{braces}
use Rattle.jx_serve.proofs.selection_words.close.Given as goal

-- so many have ended
abbrev pub invariant-loop-number : goal.invariant-loop-number
invariant-loop-number l = l.out.items ≡ l.initial.out.items ++ braces l.number

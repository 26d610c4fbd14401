use Rattle.std.proofs.Common.{◌≡◌, ◌++◌}
use Rattle.jx_serve.specs.inside.Sound.{closings}
use Rattle.jx_serve.proofs.nested_words.add_closings.Given as goal

-- so many have ended
abbrev pub invariant-loop-number : goal.invariant-loop-number
invariant-loop-number l = l.out.items ≡ l.initial.out.items ++ closings l.number

use Rattle.std.proofs.Common.{◌≡◌, ◌++◌, take, flat_map}
use Rattle.jx_serve.specs.Words.{next_diagnostic}
use Rattle.jx_serve.proofs.line_words.add_others.Given as goal

-- the diagnostics so far are added
abbrev pub invariant-loop-mark : goal.invariant-loop-mark
invariant-loop-mark l = l.out.items ≡ l.initial.out.items ++ flat_map next_diagnostic (take l.mark-index l.marks)

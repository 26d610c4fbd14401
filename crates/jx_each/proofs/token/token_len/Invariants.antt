-- No slash stands among the bytes so far.
use Rattle.std.proofs.Common.{take}
use Rattle.jx_index.specs.Pointers.{HasNoSlash}
use Rattle.jx_each.proofs.token.token_len.Given as goal

abbrev pub invariant-loop-at : goal.invariant-loop-at
invariant-loop-at l = HasNoSlash (take l.at l.bytes)

-- What is written so far, and then the rest as it is shown, is the whole.
use Rattle.std.proofs.Common.{◌≡◌, ◌++◌, length}
use Rattle.std.specs.String.{string_bytes}
use Rattle.jx_sentence.specs.Shown.{shown}
use Rattle.jx_sentence.proofs.shown.push_shown.Given as goal

abbrev pub invariant-loop-rest : goal.invariant-loop-rest
invariant-loop-rest l = string_bytes l.out ++ shown l.rest ≡ string_bytes l.initial.out ++ shown l.bytes

abbrev pub decreases-loop-rest : goal.decreases-loop-rest
decreases-loop-rest l = length l.rest

use Rattle.std.proofs.Common.{ℕ, List, take}
use Rattle.jx_lex.specs.declared.alphabet.state.LexState.TheVariants as state
use Rattle.jx_maps.specs.inside.Passing.{AllKept}
use Rattle.jx_lex.specs.Uneventful.{AllKeep}
use Rattle.jx_maps.proofs.side_by_side.all_keep_digits.Given as goal

-- digits change none of the first segments
abbrev pub invariant-loop-i : goal.invariant-loop-i
invariant-loop-i l = (w : List ℕ) → AllKeep state.Str w → AllKeep state.Int w → AllKeep state.Frac w → AllKeep state.Exp w → AllKept w (take l.i l.segments)

use Rattle.std.proofs.Common.{◌≡◌, ◌<◌, length}
use Rattle.jx_lex.specs.declared.alphabet.state.LexState.{LexState}
use Rattle.jx_maps.specs.declared.link.Link.TheVariants.{State}
use Rattle.jx_maps.specs.Follow.{head}
use Rattle.jx_lex.specs.Ordinal.{ordinal}
use Rattle.jx_maps.proofs.link.same_heads.Given as goal

-- the heads of the first states are there
abbrev pub invariant-loop-state : goal.invariant-loop-state
invariant-loop-state l = record {
  all : length l.heads ≡ 32;
  done : (s : LexState) → ordinal s < l.state-index → head l.heads s ≡ State s;
}

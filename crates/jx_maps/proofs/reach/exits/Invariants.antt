use Rattle.std.proofs.Common.{◌≡◌, ◌<◌, length}
use Rattle.jx_lex.specs.declared.alphabet.state.LexState.{LexState}
use Rattle.jx_maps.specs.inside.Bundle.{AllLive, LiveAt}
use Rattle.jx_maps.specs.Follow.{head}
use Rattle.jx_lex.specs.Ordinal.{ordinal}
use Rattle.jx_maps.proofs.reach.exits.Given as goal

-- the first heads are noted
abbrev pub invariant-loop-state : goal.invariant-loop-state
invariant-loop-state l = record {
  all : length l.live ≡ 32;
  segments : AllLive l.live l.segments;
  heads : (s : LexState) → ordinal s < l.state-index → LiveAt l.live (head l.heads s);
}

use Rattle.std.proofs.Common.{◌≡◌, ◌<◌, length, true}
use Rattle.jx_lex.specs.declared.alphabet.state.LexState.{LexState}
use Rattle.jx_maps.specs.inside.Bundle.{is_live}
use Rattle.jx_maps.specs.Follow.{head}
use Rattle.jx_lex.specs.Ordinal.{ordinal}
use Rattle.jx_maps.specs.inside.Pruned.{IsReached}
use Rattle.jx_maps.proofs.reach.reached_from.Given as goal

-- where the first heads lead is noted
abbrev pub invariant-loop-state : goal.invariant-loop-state
invariant-loop-state l = record {
  many : length l.reached.items ≡ l.count;
  heads : (s : LexState) → ordinal s < l.state-index → is_live l.live s ≡ true → IsReached l.reached.items (head l.heads s);
}

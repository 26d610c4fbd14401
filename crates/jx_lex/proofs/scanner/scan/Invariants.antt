use Rattle.std.proofs.Common.{◌≤◌, ◌-◌}
use Rattle.std.specs.Prelude.{slice_range}
use Rattle.jx_lex.specs.Ahead.{IsSound}
use Rattle.jx_lex.specs.Lex.{lex}
use Rattle.jx_lex.specs.Seen.{GoesTo}
use Rattle.jx_lex.specs.TokenStates.{in_token}
use Rattle.jx_lex.proofs.scanner.scan.Given as goal

-- the bytes up to here were seen
abbrev pub invariant-loop-i : goal.invariant-loop-i
invariant-loop-i g l = record {
  low : l.from ≤ l.i;
  high : l.i ≤ l.to;
  sound : IsSound l.text l.ahead;
  read : GoesTo (g.K.TokenSink.has_seen l.fn.sink) (g.K.TokenSink.has_seen l.sink) (lex l.initial.state l.from (slice_range l.text l.from l.i)) l.state;
  turn : g.K.TokenSink.awaits l.sink (in_token l.state);
}

abbrev pub decreases-loop-i : goal.decreases-loop-i
decreases-loop-i g l = l.to - l.i

use Rattle.std.proofs.Common.{◌≤◌, ◌-◌}
use Rattle.std.specs.Prelude.{slice_range}
use Rattle.jx_lex.specs.declared.alphabet.state.LexState.TheVariants.{Gap}
use Rattle.jx_lex.specs.Lex.{lex}
use Rattle.jx_lex.specs.Seen.{GoesTo}
use Rattle.jx_lex.specs.TokenStates.{in_token}
use Rattle.jx_run.proofs.readers.one_pass.scan_by.Given as goal

-- the bytes up to here were seen
abbrev pub invariant-loop-at : goal.invariant-loop-at
invariant-loop-at g l = record {
  low : l.from ≤ l.at;
  high : l.at ≤ l.to;
  read : GoesTo (g.K.TokenSink.has_seen l.initial.sink) (g.K.TokenSink.has_seen l.sink) (lex Gap l.from (slice_range l.text l.from l.at)) l.state;
  turn : g.K.TokenSink.awaits l.sink (in_token l.state);
}

abbrev pub decreases-loop-at : goal.decreases-loop-at
decreases-loop-at g l = l.to - l.at

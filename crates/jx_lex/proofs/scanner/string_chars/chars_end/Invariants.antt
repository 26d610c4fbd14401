use Rattle.std.proofs.Common.{◌≤◌, ◌-◌}
use Rattle.std.specs.Prelude.{slice_range}
use Rattle.jx_lex.specs.declared.alphabet.state.LexState.TheVariants as state
use Rattle.jx_lex.specs.Ahead.{IsSound}
use Rattle.jx_lex.specs.Uneventful.{Leads}
use Rattle.jx_lex.proofs.scanner.string_chars.chars_end.Given as goal

abbrev pub invariant-loop-i : goal.invariant-loop-i
invariant-loop-i l = record {
  low : l.from ≤ l.i;
  high : l.i ≤ l.to;
  led : Leads state.Str (slice_range l.text l.from l.i) state.Str;
  sound : IsSound l.text l.ahead;
}

abbrev pub decreases-loop-i : goal.decreases-loop-i
decreases-loop-i l = l.to - l.i

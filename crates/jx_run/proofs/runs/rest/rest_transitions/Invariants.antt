use Rattle.std.proofs.Common.{◌≡◌, ◌≤◌, ◌<◌, All, length}
use Rattle.std.specs.Prelude.{slice_range}
use Rattle.jx_lex.specs.declared.alphabet.state.LexState.{LexState}
use Rattle.jx_lex.specs.Ordinal.{ordinal}
use Rattle.jx_run.specs.OutcomeRun.{IsFormWithin}
use Rattle.jx_run.specs.inside.Rest.{AreReadTransitions}
use Rattle.jx_run.proofs.RestTransitions.{IsThere}
use Rattle.jx_run.proofs.runs.rest.rest_transitions.Given as goal

abbrev pub invariant-loop-place : goal.invariant-loop-place
invariant-loop-place l = record {
  many : length l.transitions.items ≡ l.place;
  few : length l.structures.items ≤ l.place;
  there : All (IsThere l.structures.items) l.transitions.items;
  within : All (IsFormWithin l.depth l.from l.to) l.structures.items;
  reads : (s : LexState) → ordinal s < l.place → AreReadTransitions l.depth l.from (slice_range l.text l.from l.to) l.reached l.structures.items l.transitions.items s;
}

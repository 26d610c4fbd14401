use Rattle.std.proofs.Common.{◌-◌, ◌≤◌, ℕ, List}
use Rattle.jx_run.specs.declared.texts.settings.Settings.{Settings}
use Rattle.jx_file_query.specs.HeldAt.{IsHeldAt}
use Rattle.jx_file_query.specs.Known.{IsKnown}
use Rattle.jx_file_query.specs.Walk.{HasNamesOf}
use Rattle.jx_file_query.proofs.walk_reaching.pass_on.Given as goal

abbrev pub invariant-chunks : goal.invariant-chunks
invariant-chunks l = record {
  later : l.fn.at ≤ l.at;
  held : (settings : Settings) (chunk : ℕ) (text : List ℕ) → IsKnown settings chunk text l.index → HasNamesOf settings chunk text l.edges l.names → IsHeldAt settings chunk text l.edges l.fn.at l.fn.held → IsHeldAt settings chunk text l.edges l.at l.held;
}

abbrev pub decreases-chunks : goal.decreases-chunks
decreases-chunks l = l.end - l.at

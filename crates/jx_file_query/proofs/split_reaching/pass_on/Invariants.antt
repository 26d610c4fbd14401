use Rattle.std.proofs.Common.{◌-◌, ◌≤◌, ℕ, List}
use Rattle.jx_run.specs.declared.texts.settings.Settings.{Settings}
use Rattle.jx_file_query.specs.Known.{IsKnown}
use Rattle.jx_file_query.specs.Cuts.{cuts_of}
use Rattle.jx_file_query.specs.Split.{IsCutAt}
use Rattle.jx_file_query.proofs.split_reaching.pass_on.Given as goal

abbrev pub invariant-chunks : goal.invariant-chunks
invariant-chunks l = record {
  later : l.fn.at ≤ l.at;
  cut : (settings : Settings) (chunk : ℕ) (text : List ℕ) → IsKnown settings chunk text l.index → IsCutAt settings chunk text l.aim l.fn.at (cuts_of l.fn.held) → IsCutAt settings chunk text l.aim l.at (cuts_of l.held);
}

abbrev pub decreases-chunks : goal.decreases-chunks
decreases-chunks l = l.end - l.at

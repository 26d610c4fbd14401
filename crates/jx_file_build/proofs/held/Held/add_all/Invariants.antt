use Rattle.std.proofs.Common.{◌-◌, ◌≤◌, ◌++◌, ℕ, Bool, List, length, take}
use Rattle.jx_run.specs.declared.texts.settings.Settings.{Settings}
use Rattle.jx_file_build.specs.Held.{AreWhole}
use Rattle.jx_file_build.proofs.held.Held.add_all.Given as goal

abbrev pub invariant-chunks : goal.invariant-chunks
invariant-chunks l = record {
  within : l.at ≤ length l.bytes;
  whole : (has_names : Bool) (settings : Settings) (before : List ℕ) → AreWhole has_names settings l.size before l.fn.self → AreWhole has_names settings l.size (before ++ take l.at l.bytes) l.held;
}

abbrev pub decreases-chunks : goal.decreases-chunks
decreases-chunks l = length l.bytes - l.at

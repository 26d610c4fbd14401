-- The split has come on by the chunks of the file, if these are told apart from those of the text.
use Rattle.std.specs.Prelude.{Some}
use Rattle.std.proofs.Common.{◌≡◌, ℕ, List, false}
use Rattle.jx_run.specs.declared.texts.settings.Settings.{Settings}
use Rattle.jx_file_index.specs.Index.{IsIndexOf}
use Rattle.jx_file_query.specs.Split.{HasCome, left}
use Rattle.jx_cmd_index.specs.SavedBytes.{TellsApart}
use Rattle.jx_cmd_index.proofs.splitting.parts_in.Given as goal

abbrev pub invariant-chunks : goal.invariant-chunks
invariant-chunks g l = record {
  unfailed : g.F.ReadAt.has_failed l.file ≡ false;
  kept : g.F.ReadAt.content l.file ≡ g.F.ReadAt.content l.initial.file;
  index : l.split.index.now ≡ l.index;
  aim : l.split.aim ≡ l.fn.aim;
  come : (settings : Settings) (chunk : ℕ) (text all : List ℕ) → IsIndexOf settings chunk text l.index → g.F.ReadAt.content l.initial.file ≡ Some all → TellsApart chunk text all → HasCome settings chunk text l.split;
}

abbrev pub decreases-chunks : goal.decreases-chunks
decreases-chunks g l = left l.split

use Rattle.std.proofs.Common.{◌≡◌, ◌-◌, ◌<◌}
use Rattle.std.specs.Prelude.{slice_index}
use Rattle.jx_claim.specs.CutFaults.{AreSound}
use Rattle.jx_claim.proofs.cutting.check.Given as goal

abbrev pub invariant-loop-index : goal.invariant-loop-index
invariant-loop-index l = record {
  sound : AreSound l.len l.cuts l.index;
  first : l.index ≡ 0 → l.before ≡ 0;
  later : 0 < l.index → l.before ≡ slice_index l.cuts (l.index - 1);
}

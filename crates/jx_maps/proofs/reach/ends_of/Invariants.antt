use Rattle.std.proofs.Common.{◌≡◌, length, take}
use Rattle.jx_maps.specs.inside.Bundle.{AllLive}
use Rattle.jx_maps.proofs.reach.ends_of.Given as goal

-- the first segments are noted
abbrev pub invariant-loop-i : goal.invariant-loop-i
invariant-loop-i l = record {
  all : length l.live ≡ 32;
  segments : AllLive l.live (take l.i l.segments);
}

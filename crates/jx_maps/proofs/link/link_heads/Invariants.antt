use Rattle.std.proofs.Common.{◌≡◌, ◌++◌, length, take, drop, map}
use Rattle.jx_maps.specs.Follow.{linked}
use Rattle.jx_maps.proofs.link.link_heads.Given as goal

-- the first heads lead on already
abbrev pub invariant-loop-i : goal.invariant-loop-i
invariant-loop-i l = record {
  same : l.heads ≡ map (linked l.right l.by) (take l.i l.initial.heads) ++ drop l.i l.initial.heads;
  all : length l.heads ≡ 32;
}

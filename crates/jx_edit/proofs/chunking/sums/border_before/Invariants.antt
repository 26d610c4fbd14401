use Rattle.std.proofs.Common.{◌≡◌, ◌<◌, ◌*◌}
use Rattle.jx_edit.specs.inside.Sums.{size_before}
use Rattle.jx_edit.proofs.chunking.sums.border_before.Given as goal

-- the place lies behind the groups before this one
abbrev pub invariant-loop-group : goal.invariant-loop-group
invariant-loop-group l = record { long : l.bytes ≡ size_before l.chunks (l.group * 64); tight : 0 < l.group → l.bytes < l.at }

use Rattle.jx_edit.proofs.Seeking.{IsSought}
use Rattle.jx_edit.proofs.positions.seek.reach_in.Given as goal

-- the chunks before this one come before the position
abbrev pub invariant-loop-place : goal.invariant-loop-place
invariant-loop-place l = IsSought l.encoding l.fn.from l.to l.position l.chunks l.place l.before

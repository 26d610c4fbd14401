use Rattle.std.proofs.Common.{◌≡◌, ◌≤◌, length, take}
use Rattle.jx_edit.specs.inside.Chunks.{text_of}
use Rattle.jx_edit.proofs.chunking.seam.rest_in.Given as goal

-- the place lies behind the chunks before this one
abbrev pub invariant-loop-place : goal.invariant-loop-place
invariant-loop-place l = (l.before ≡ length (text_of (take l.place l.chunks))) × (l.before ≤ l.at)

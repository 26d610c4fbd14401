use Rattle.std.proofs.Common.{◌≡◌, length, take}
use Rattle.jx_edit.proofs.reading.place.are_same.Given as goal

-- those before this one are the same
abbrev pub invariant-loop-place : goal.invariant-loop-place
invariant-loop-place l = (take l.place l.some ≡ take l.place l.others) × (length l.some ≡ length l.others)

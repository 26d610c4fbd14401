-- The lines before this one are appended.
use Rattle.std.proofs.Common.{◌≡◌, ◌++◌, map, take}
use Rattle.jx_ndjson.specs.WholeLines.{moved_line}
use Rattle.jx_ndjson.proofs.whole_lines.append_behind.Given as goal

abbrev pub invariant-loop-at : goal.invariant-loop-at
invariant-loop-at l = l.bad.items ≡ l.initial.bad.items ++ map (moved_line l.lines l.bytes) (take l.at l.more)

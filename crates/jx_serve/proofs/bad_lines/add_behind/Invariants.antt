use Rattle.std.proofs.Common.{◌≡◌, ◌++◌, map, take}
use Rattle.jx_ndjson.specs.WholeLines.{moved_line}
use Rattle.jx_serve.proofs.bad_lines.add_behind.Given as goal

-- the lines so far are added
abbrev pub invariant-loop-line : goal.invariant-loop-line
invariant-loop-line l = l.bad.items ≡ l.initial.bad.items ++ map (moved_line l.lines l.bytes) (take l.line-index l.more)

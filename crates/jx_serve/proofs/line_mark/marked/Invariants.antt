use Rattle.std.proofs.Common.{◌≡◌, ◌++◌, drop, false}
use Rattle.jx_serve.specs.LineMarks.{marked}
use Rattle.jx_serve.proofs.line_mark.marked.Given as goal

-- the lines so far are passed over or put on
abbrev pub invariant-loop-line : goal.invariant-loop-line
invariant-loop-line l = l.marked.items ++ marked l.seen (drop l.line-index l.lines) ≡ marked false l.lines

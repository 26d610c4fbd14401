use Rattle.std.proofs.Common.{take}
use Rattle.jx_serve.specs.LineMarks.{AreMarksOf}
use Rattle.jx_serve.proofs.line_mark.marks_of.Given as goal

-- the lines so far have each its own
abbrev pub invariant-loop-line : goal.invariant-loop-line
invariant-loop-line l = AreMarksOf l.encoding l.document.bytes (take l.line-index l.lines) l.marks.items

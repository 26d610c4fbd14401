use Rattle.std.proofs.Common.{length}
use Rattle.jx_lsp.specs.inside.Parts.{Goes, IsGoing}
use Rattle.jx_lsp.proofs.serve.answer_all.Given as goal

-- what was followed so far
abbrev pub invariant-loop-rest : goal.invariant-loop-rest
invariant-loop-rest g l = IsGoing l.frames l.server × Goes l.fn.frames l.fn.server (g.W.Write.contents l.fn.writer) l.fn.bytes l.frames l.server (g.W.Write.contents l.writer) l.rest

abbrev pub decreases-loop-rest : goal.decreases-loop-rest
decreases-loop-rest g l = length l.rest

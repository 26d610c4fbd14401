use Rattle.std.proofs.Common.{◌≡◌, vec_len}
use Rattle.jx_lsp.specs.inside.Parts.{SoFar}
use Rattle.jx_lsp.proofs.serve.serve.Given as goal

-- all that was read so far was followed
abbrev pub invariant-loop : goal.invariant-loop
invariant-loop g l = (vec_len l.batch ≡ 65536)
    × SoFar (g.R.Read.remaining l.fn.reader) (g.R.Read.remaining l.reader) (g.W.Write.contents l.fn.writer) (g.W.Write.contents l.writer) l.frames l.server

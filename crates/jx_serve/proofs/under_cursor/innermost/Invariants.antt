use Rattle.jx_serve.proofs.LastHolding.{IsLastBelow}
use Rattle.jx_serve.proofs.under_cursor.innermost.Given as goal

-- the last of the rows so far
abbrev pub invariant-loop-number : goal.invariant-loop-number
invariant-loop-number l = IsLastBelow l.rows l.offset l.number l.last

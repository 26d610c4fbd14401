use Rattle.std.proofs.Common.{◌≡◌, take, flat_map}
use Rattle.jx_serve.specs.Selections.{spans_at}
use Rattle.jx_serve.proofs.selections.chain_of.Given as goal

-- the spans of the rows so far
abbrev pub invariant-loop-row : goal.invariant-loop-row
invariant-loop-row l = l.chain.items ≡ flat_map (spans_at l.offset) (take l.row-index l.rows)

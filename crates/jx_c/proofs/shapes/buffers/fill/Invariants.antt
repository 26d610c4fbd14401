use Rattle.jx_c.proofs.Filled.{IsFilledTo}
use Rattle.jx_c.proofs.shapes.buffers.fill.Given as goal

-- those before this one are shown
abbrev pub invariant-loop-at : goal.invariant-loop-at
invariant-loop-at g l = IsFilledTo g.T.Seen.form l.at l.initial.buffer l.buffer l.from

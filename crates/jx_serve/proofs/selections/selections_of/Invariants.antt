use Rattle.std.proofs.Common.{take}
use Rattle.jx_serve.specs.Selections.{AreSelectionsOf}
use Rattle.jx_serve.proofs.selections.selections_of.Given as goal

-- the places so far have each its own
abbrev pub invariant-loop-place : goal.invariant-loop-place
invariant-loop-place l = AreSelectionsOf l.encoding l.document.bytes l.kept l.rows (take l.place-index l.places) l.selections.items

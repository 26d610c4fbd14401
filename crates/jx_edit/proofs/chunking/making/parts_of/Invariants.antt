use Rattle.std.proofs.Common.{◌≤◌, ◌<◌, All}
use Rattle.jx_edit.specs.inside.Parts.{IsPart}
use Rattle.jx_edit.proofs.chunking.making.parts_of.Given as goal

-- the parts so far, of which the last one begins here
abbrev pub invariant-loop-end : goal.invariant-loop-end
invariant-loop-end l = (0 < l.size) × (l.end ≤ l.len) × All (IsPart l.len) l.parts.items

abbrev pub decreases-loop-end : goal.decreases-loop-end
decreases-loop-end l = l.end

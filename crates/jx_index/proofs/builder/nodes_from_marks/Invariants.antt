use Rattle.std.proofs.Common.{◌≡◌, drop}
use Rattle.jx_index.specs.inside.Building.{built_of, make}
use Rattle.jx_index.specs.inside.Built.{built, Fits}
use Rattle.jx_index.proofs.builder.nodes_from_marks.Given as goal

-- what is made of the marks that are left is made of all
abbrev pub invariant-loop-mark : goal.invariant-loop-mark
invariant-loop-mark l = record { fits : Fits (built l.builder); same : make l.last (drop l.mark-index l.marks) l.left (built l.builder) ≡ built_of l.last l.marks l.ends }

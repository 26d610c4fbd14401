use Rattle.std.proofs.Common.{◌≡◌, ◌++◌, take}
use Rattle.std.specs.List.{flat_map, AllByRecursion}
use Rattle.jx_portion.specs.inside.Said.{structure_said, IsSaid}
use Rattle.jx_portion.proofs.encoding.put_structures.Given as goal

abbrev pub invariant-loop-structure : goal.invariant-loop-structure
invariant-loop-structure l = (l.out.items ≡ l.initial.out.items ++ flat_map structure_said (take l.structure-index l.structures)) × AllByRecursion IsSaid (take l.structure-index l.structures)

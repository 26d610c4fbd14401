use Rattle.std.proofs.Common.{◌≡◌, ◌++◌, length, map}
use Rattle.std.specs.List.{AllByRecursion}
use Rattle.std.specs.Vec.Iter.{into_iter_items, into_iter_len}
use Rattle.jx_reduce.specs.Parts.{structure_of_parts}
use Rattle.jx_reduce.specs.Sound.{IsSound}
use Rattle.jx_portion.proofs.decoding.structures_of.Given as goal

abbrev pub invariant-loop-part : goal.invariant-loop-part
invariant-loop-part l = (l.yielded ++ into_iter_items l.part-iterator ≡ into_iter_items l.initial.part-iterator)
    × (l.structures.items ≡ map (structure_of_parts l.depth) l.yielded)
    × AllByRecursion IsSound l.structures.items
    × (into_iter_len l.part-iterator ≡ length (into_iter_items l.part-iterator))

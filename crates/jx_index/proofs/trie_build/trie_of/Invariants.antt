use Rattle.jx_index.specs.inside.Growing.{total, IsLevel}
use Rattle.jx_index.proofs.trie_build.trie_of.Given as goal

abbrev pub invariant-loop-alloc : goal.invariant-loop-alloc
invariant-loop-alloc l = IsLevel l.pointers l.edges.items l.parts.items

abbrev pub decreases-loop-alloc : goal.decreases-loop-alloc
decreases-loop-alloc l = total l.parts.items

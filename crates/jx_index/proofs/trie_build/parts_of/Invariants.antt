use Rattle.std.proofs.Common.{[], take}
use Rattle.jx_index.specs.inside.Growing.{IsLevel}
use Rattle.jx_index.proofs.trie_build.parts_of.Given as goal

abbrev pub invariant-loop-pointer : goal.invariant-loop-pointer
invariant-loop-pointer l = IsLevel (take l.pointer-index l.pointers) [] l.parts.items

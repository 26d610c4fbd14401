use Rattle.jx_index.specs.Units.{chars_units}
use Rattle.jx_index.specs.inside.FewEdges.{BeginsAt}
use Rattle.jx_index.proofs.Few.{NoneBefore}
use Rattle.jx_index.proofs.trie_nodes.child_among.Given as goal

abbrev pub invariant-loop-at : goal.invariant-loop-at
invariant-loop-at l = BeginsAt l.edges l.fn.node l.fn.range.start → NoneBefore l.edges l.fn.node (chars_units l.fn.spelling 0 l.bytes) l.at

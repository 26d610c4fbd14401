use Rattle.std.proofs.Common.{◌≡◌, take, map}
use Rattle.jx_index.specs.declared.trie.Edge.{Edge}
use Rattle.jx_index.specs.inside.Trie.{edge_units}
use Rattle.jx_file_index.specs.NameHash.{name_hash}
use Rattle.jx_file_query.proofs.members.hashes_of.Given as goal

abbrev pub invariant-loop-edge : goal.invariant-loop-edge
invariant-loop-edge l = l.hashes.items ≡ map (λ (e : Edge). name_hash (edge_units e)) (take l.edge-index l.edges)

use Rattle.std.proofs.Common.{rules}
use Rattle.std.proofs.lemmas.List.Sorted.{IsPartitionPoint-from_clause}
use Rattle.std.specs.Ordering.{nat_cmp, is_lt}
use Rattle.std.specs.Cmp.Lexicographic.{slice_cmp}
use Rattle.jx_index.specs.inside.Trie.{edge_key, sought_key}
use Rattle.jx_index.proofs.Lookups.{first_from_point, partitioned}
use Rattle.jx_index.proofs.trie_nodes.first_from.Goals as goal

pub returns-clause-first : goal.returns-clause-first
returns-clause-first c = λ trie.
    let key = sought_key c.args.key.now in
    let edges = c.args.edges.now in
    first_from_point edges trie key c.partition_point.result
    (IsPartitionPoint-from_clause (λ e. is_lt (slice_cmp nat_cmp (edge_key e) key)) _ _ c.partition_point.ensures.partitioned (partitioned edges trie key) (λ a r q k. search rules))

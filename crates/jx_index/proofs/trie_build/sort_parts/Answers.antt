use Rattle.std.proofs.Common.{rules}
use Rattle.std.proofs.lemmas.Fn.{answers_by}
use Rattle.std.proofs.lemmas.List.Sorted.{ranks_by}
use Rattle.std.specs.Cmp.Lexicographic.{nat_list_cmp_total}
use Rattle.jx_index.specs.declared.trie_build.Part.{Part}
use Rattle.jx_index.specs.inside.Growing.{part_before}
use Rattle.jx_index.specs.inside.Trie.{edge_key}
use Rattle.jx_index.proofs.trie_build.sort_parts.Goals as goal

pub returns-clause-rising : goal.returns-clause-rising
returns-clause-rising c =
    c.sort_unstable_by.ensures.sorted part_before (ranks_by nat_list_cmp_total (λ (p : Part). edge_key p.edge))
    (answers_by _ _ (λ f. Unit {0}) (λ f a r f' k i. search rules) _ tt)

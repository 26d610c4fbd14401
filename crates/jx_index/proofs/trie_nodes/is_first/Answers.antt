use Rattle.std.proofs.Common.{sym, ◌∙◌}
use Rattle.jx_index.specs.inside.Trie.{sought_key}
use Rattle.jx_index.proofs.Lookups.{first_beside}
use Rattle.jx_index.proofs.Tests.{is_off}
use Rattle.jx_index.proofs.trie_nodes.is_first.Goals as goal

pub returns-then-follows-clause-first : goal.returns-then-follows-clause-first
returns-then-follows-clause-first c = λ off trie.
    first_beside c.args.edges.now trie (sought_key c.args.key.now) c.args.at (sym c.follows.ensures ∙ c.if-follows.true) (sym c.stands_before.ensures ∙ is_off c.stands_before.result off)

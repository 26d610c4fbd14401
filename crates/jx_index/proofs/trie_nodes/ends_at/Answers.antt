use Rattle.std.proofs.Common.{sym, ◌∙◌, arith}
use Rattle.std.proofs.lemmas.Bool.Decides.{nat_tests}
use Rattle.jx_index.proofs.Few.{ends, ends_at_last}
use Rattle.jx_index.proofs.trie_nodes.ends_at.Goals as goal

pub returns-in-Some : goal.returns-in-Some
returns-in-Some c = λ on trie. ends c.args.edges.now trie c.args.node c.args.at c.in-Some.edge (sym c.edge_at.ensures ∙ c.in-Some.is) (grind (arith, nat_tests, on))

pub returns-in-None : goal.returns-in-None
returns-in-None c = λ on trie. ends_at_last c.args.edges.now c.args.node c.args.at (sym c.edge_at.ensures ∙ c.in-None.is)

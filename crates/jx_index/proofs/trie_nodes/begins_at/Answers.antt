use Rattle.std.proofs.Common.{sym, ◌∙◌, arith}
use Rattle.std.proofs.lemmas.Bool.Decides.{nat_tests}
use Rattle.jx_index.proofs.Few.{begins, begins_at_first}
use Rattle.jx_index.proofs.trie_nodes.begins_at.Goals as goal

pub returns-then-at-eq0 : goal.returns-then-at-eq0
returns-then-at-eq0 c = λ on trie. begins_at_first c.args.edges.now c.args.node c.args.at (let t = c.if-at-eq0.true in omega (arith, t))

pub returns-in-Some : goal.returns-in-Some
returns-in-Some c = λ on trie.
    begins c.args.edges.now trie c.args.node c.args.at c.in-Some.edge (let f = c.if-at-eq0.false in omega (arith, f)) (sym c.edge_at.ensures ∙ c.in-Some.is) (grind (arith, nat_tests, on))

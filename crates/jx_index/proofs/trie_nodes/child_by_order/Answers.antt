use Rattle.std.proofs.Common.{ℕ, ◌∷◌, sym, subst, ◌∙◌}
use Rattle.jx_index.specs.Units.{chars_units}
use Rattle.jx_index.specs.inside.Trie.{IsFirstFrom}
use Rattle.jx_index.proofs.Lookups.{child_hit, child_miss, nothing, other}
use Rattle.jx_index.proofs.trie_nodes.child_by_order.Goals as goal

pub returns-in-Some : goal.returns-in-Some
returns-in-Some c = λ trie.
    let edges = c.args.edges.now in
    let units = chars_units c.args.spelling 0 c.args.bytes.now in
    let at = c.first_from-at.result in
    sym (child_hit edges trie c.args.node units at (subst (λ (p : ℕ). IsFirstFrom edges (c.args.node ∷ p ∷ units) at) c.place_of-place.ensures (c.first_from-at.ensures.first trie)) c.in-Some.edge
    (sym c.edge_at.ensures ∙ c.in-Some.is) (sym c.leads_on.ensures ∙ c.if-leads_on.true))

pub returns-in_default : goal.returns-in_default
returns-in_default c = λ trie.
    let edges = c.args.edges.now in
    let units = chars_units c.args.spelling 0 c.args.bytes.now in
    let at = c.first_from-at.result in
    sym (child_miss edges trie c.args.node units at (subst (λ (p : ℕ). IsFirstFrom edges (c.args.node ∷ p ∷ units) at) c.place_of-place.ensures (c.first_from-at.ensures.first trie))
    (other edges c.args.node units at c.in-Some.edge (sym c.edge_at.ensures ∙ c.in-Some.is) (sym c.leads_on.ensures ∙ c.if-leads_on.false)))

pub returns-in_default-2 : goal.returns-in_default-2
returns-in_default-2 c = λ trie.
    let edges = c.args.edges.now in
    let units = chars_units c.args.spelling 0 c.args.bytes.now in
    let at = c.first_from-at.result in
    sym (child_miss edges trie c.args.node units at (subst (λ (p : ℕ). IsFirstFrom edges (c.args.node ∷ p ∷ units) at) c.place_of-place.ensures (c.first_from-at.ensures.first trie))
    (nothing edges c.args.node units at (sym c.edge_at.ensures ∙ c.in_default.is)))

use Rattle.std.proofs.Common.{◌∙◌, sym, subst, arith, ℕ}
use Rattle.jx_index.specs.inside.Trie.{IsNextFrom}
use Rattle.jx_index.proofs.Lookups.{element_hit, element_later, element_miss, next_is}
use Rattle.jx_index.proofs.seeker.Seeker.element.Goals as goal

pub returns-then-place-self-clause-found : goal.returns-then-place-self-clause-found
returns-then-place-self-clause-found c = λ trie next low.
    element_later c.args.edges.now trie c.args.node c.args.place low c.args.self.now.next next (omega (arith, c.if-place-self.true))

pub returns-then-self-place-clause-found : goal.returns-then-self-place-clause-found
returns-then-self-place-clause-found c = λ trie next low.
    element_hit c.args.edges.now trie c.args.node c.args.place c.first_of_place-at.result (c.first_of_place-at.ensures.first trie) low (sym c.place_from-self.ensures ∙ (omega (arith, c.if-self-place.true)))

pub returns-then-self-place-clause-next : goal.returns-then-self-place-clause-next
returns-then-self-place-clause-next c = λ trie next.
    subst (λ (n : ℕ). IsNextFrom c.args.edges.now c.args.node c.args.place n) (sym c.place_from-self.ensures)
    (next_is c.args.edges.now trie c.args.node c.args.place c.first_of_place-at.result (c.first_of_place-at.ensures.first trie))

pub returns-else-self-place-clause-found : goal.returns-else-self-place-clause-found
returns-else-self-place-clause-found c = λ trie next low.
    element_miss c.args.edges.now trie c.args.node c.args.place c.first_of_place-at.result (c.first_of_place-at.ensures.first trie) low
    (λ e. let f = c.if-self-place.false in let g = c.place_from-self.ensures in absurd (omega (arith, e, f, g)))

pub returns-else-self-place-clause-next : goal.returns-else-self-place-clause-next
returns-else-self-place-clause-next c = λ trie next.
    subst (λ (n : ℕ). IsNextFrom c.args.edges.now c.args.node c.args.place n) (sym c.place_from-self.ensures)
    (next_is c.args.edges.now trie c.args.node c.args.place c.first_of_place-at.result (c.first_of_place-at.ensures.first trie))

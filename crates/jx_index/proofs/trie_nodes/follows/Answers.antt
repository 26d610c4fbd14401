use Rattle.std.proofs.Common.{◌≡◌, ℕ, sym, ap, ◌∙◌, arith}
use Rattle.jx_index.specs.inside.Trie.{follows, sought_key}
use Rattle.jx_index.proofs.Lookups.{follows_at}
use Rattle.jx_index.proofs.trie_nodes.follows.Goals as goal

pub returns-then-at-eq0 : goal.returns-then-at-eq0
returns-then-at-eq0 c =
    let none : c.args.at ≡ 0 = omega (arith, c.if-at-eq0.true) in
    sym (ap (λ (n : ℕ). follows c.args.edges.now n (sought_key c.args.key.now)) none)

pub returns : goal.returns
returns c = c.stands_before.ensures ∙ follows_at c.args.edges.now c.args.at (sought_key c.args.key.now) (λ e. let f = c.if-at-eq0.false in absurd (omega (arith, e, f)))

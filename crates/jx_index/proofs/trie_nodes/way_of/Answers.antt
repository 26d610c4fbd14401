use Rattle.std.proofs.Common.{◌<◌, ◌≤◌, ℕ, List, length, refl, sym, subst, ◌∙◌, arith}
use Rattle.std.proofs.lemmas.Bool.Decides.{nat_tests}
use Rattle.jx_index.specs.declared.units.Spelling.TheVariants.{InToken}
use Rattle.jx_index.specs.Pointers.{HasSlash, tokens}
use Rattle.jx_index.specs.Units.{chars_units}
use Rattle.jx_index.specs.inside.Trie.{IsWay}
use Rattle.jx_index.proofs.Climbs.{left_all, left_none, left_on, no_child, token_first}
use Rattle.jx_index.proofs.TokenSteps.{tokens_end}
use Rattle.jx_index.proofs.trie_nodes.way_of.Goals as goal

pub loop-rest-init : goal.loop-rest-init
loop-rest-init c = record {
  slash = subst HasSlash (sym c.bytes-rest.ensures.spelt) c.bytes-rest.ensures.pointer.slash;
  left = λ trie path way. left_all c.args.edges.now (tokens c.bytes-rest.result.now) c.new-way.result.items path c.new-way.ensures.items way;
}

pub returns-in-None : goal.returns-in-None
returns-in-None c = λ trie path way.
    let here : 0 < length c.loop-rest.rest.now = grind (arith, nat_tests, c.is_empty.ensures, c.loop-rest-test.true) in
    let i = c.loop-rest.invariant in
    absurd
    (no_child c.args.edges.now trie c.loop-rest.node c.loop-rest.way.items path (tokens c.loop-rest.rest.now) (chars_units InToken 0 c.keep.result.now) _
    (token_first c.loop-rest.rest.now c.skip-bytes.result.now _ c.keep.result.now c.token_len-len.result here i.slash c.skip-bytes.ensures c.token_len-len.ensures.slashless c.token_len-len.ensures.next c.keep.ensures refl)
    (sym c.in-None.is ∙ c.child.ensures trie) (i.left trie path (subst (λ (p : List ℕ). IsWay c.args.edges.now 0 (tokens p) path) (sym c.bytes-rest.ensures.spelt) way)))

pub loop-rest-preserved : goal.loop-rest-preserved
loop-rest-preserved c =
    let here : 0 < length c.loop-rest.rest.now = grind (arith, nat_tests, c.is_empty.ensures, c.loop-rest-test.true) in
    let i = c.loop-rest.invariant in
    let later = c.skip-rest.result.now in
    record {
      slash = subst HasSlash (sym c.skip-rest.ensures) c.token_len-len.ensures.next;
      left = λ trie path way.
          left_on c.args.edges.now trie c.loop-rest.node c.loop-rest.way.items path c.in-Some.next (tokens c.loop-rest.rest.now) (chars_units InToken 0 c.keep.result.now) (tokens later)
          c.push.new.self.items
          (token_first c.loop-rest.rest.now c.skip-bytes.result.now later c.keep.result.now c.token_len-len.result here i.slash c.skip-bytes.ensures c.token_len-len.ensures.slashless c.token_len-len.ensures.next c.keep.ensures c.skip-rest.ensures)
          (sym c.in-Some.is ∙ c.child.ensures trie) c.in_ok-push.ensures.items (i.left trie path way);
    }

pub returns : goal.returns
returns c = λ trie path way.
    let none : length c.loop-rest.rest.now ≤ 0 = grind (arith, nat_tests, c.is_empty.ensures, c.loop-rest-test.false) in
    left_none c.args.edges.now trie c.loop-rest.node c.loop-rest.way.items path (tokens c.loop-rest.rest.now) c.push-2.new.self.items (tokens_end c.loop-rest.rest.now none) c.in_ok-push-2.ensures.items
    (c.loop-rest.invariant.left trie path (subst (λ (p : List ℕ). IsWay c.args.edges.now 0 (tokens p) path) (sym c.bytes-rest.ensures.spelt) way))

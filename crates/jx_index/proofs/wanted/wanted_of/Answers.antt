use Rattle.std.proofs.Common.{◌<◌, ◌≤◌, List, ◌++◌, length, refl, sym, ap, subst, ◌∙◌, arith}
use Rattle.std.proofs.lemmas.Bool.Decides.{nat_tests}
use Rattle.jx_index.specs.declared.wanted.Wanted.{Wanted}
use Rattle.jx_index.specs.Pointers.{HasSlash, tokens}
use Rattle.jx_index.specs.inside.Found.{tokens_of}
use Rattle.jx_index.proofs.FinderSteps.{wanted_step, wanted_end}
use Rattle.jx_index.proofs.wanted.wanted_of.Goals as goal

pub loop-rest-init : goal.loop-rest-init
loop-rest-init c = record {
  tokens_are = ap (λ (ws : List Wanted). tokens_of ws ++ tokens c.bytes-rest.result.now) c.new-wanted.ensures.items;
  slash = subst HasSlash (sym c.bytes-rest.ensures.spelt) c.bytes-rest.ensures.pointer.slash;
}

pub loop-rest-preserved : goal.loop-rest-preserved
loop-rest-preserved c =
    let here : 0 < length c.loop-rest.rest.now = grind (arith, nat_tests, c.is_empty.ensures, c.loop-rest-test.true) in
    let i = c.loop-rest.invariant in
    record {
      tokens_are =
          wanted_step c.loop-rest.wanted.items c.push.new.self.items (record { name = c.keep.result }) c.loop-rest.rest.now c.skip-bytes.result.now c.skip-rest.result.now c.keep.result.now
          c.token_len-len.result _ here i.slash c.skip-bytes.ensures c.token_len-len.ensures.slashless c.token_len-len.ensures.next refl c.keep.ensures c.skip-rest.ensures c.in_ok-push.ensures.items i.tokens_are;
      slash = subst HasSlash (sym c.skip-rest.ensures) c.token_len-len.ensures.next;
    }

pub returns : goal.returns
returns c =
    let none : length c.loop-rest.rest.now ≤ 0 = grind (arith, nat_tests, c.is_empty.ensures, c.loop-rest-test.false) in
    wanted_end c.loop-rest.wanted.items c.loop-rest.rest.now _ none c.loop-rest.invariant.tokens_are ∙ ap tokens c.bytes-rest.ensures.spelt

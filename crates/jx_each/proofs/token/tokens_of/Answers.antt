use Rattle.std.proofs.Common.{◌<◌, ◌≤◌, length, sym, subst, arith}
use Rattle.std.proofs.lemmas.Bool.Decides.{nat_tests}
use Rattle.jx_index.specs.Pointers.{HasSlash}
use Rattle.jx_each.proofs.Numbers.{path_end, path_step}
use Rattle.jx_each.proofs.token.tokens_of.Goals as goal

pub loop-rest-preserved : goal.loop-rest-preserved
loop-rest-preserved c =
    let here : 0 < length c.loop-rest.rest.now = grind (arith, nat_tests, c.is_empty.ensures, c.loop-rest-test.true) in
    let i = c.loop-rest.invariant in
    record {
      tokens_are =
          path_step c.loop-rest.path.items c.push.new.self.items _ c.loop-rest.rest.now c.behind-bytes.result.now c.behind-rest.result.now c.token_len-len.result _
          here i.slash c.behind-bytes.ensures c.token_len-len.ensures.slashless c.token_len-len.ensures.next c.in_ok-units.ensures c.behind-rest.ensures c.in_ok-push.ensures.items i.tokens_are;
      slash = subst HasSlash (sym c.behind-rest.ensures) c.token_len-len.ensures.next;
    }

pub returns : goal.returns
returns c =
    let none : length c.loop-rest.rest.now ≤ 0 = grind (arith, nat_tests, c.is_empty.ensures, c.loop-rest-test.false) in
    path_end c.loop-rest.path.items c.loop-rest.rest.now _ none c.loop-rest.invariant.tokens_are

use Rattle.std.proofs.Common.{◌<◌, ◌≤◌, ◌++◌, List, ℕ, length, ap, ◌∙◌, arith}
use Rattle.std.specs.Prelude.{option_to_list}
use Rattle.std.proofs.lemmas.Bool.Decides.{nat_tests}
use Rattle.jx_index.specs.declared.units.Spelling.TheVariants.{InToken}
use Rattle.jx_index.specs.Units.{chars_units}
use Rattle.jx_index.proofs.UnitSteps.{rest_is}
use Rattle.jx_string.proofs.UnitSteps.{token_end, token_more}
use Rattle.jx_string.proofs.tokens.token_units.Goals as goal

pub loop-left-preserved : goal.loop-left-preserved
loop-left-preserved c =
    let here : 0 < length c.loop-left.left.now = grind (arith, nat_tests, c.is_empty.ensures, c.loop-left-test.true) in
    let spelt = c.token_spelt_at-spelt.result in
    ap (λ (x : List ℕ). x ++ chars_units InToken 0 c.behind-left.result.now)
    (c.in_ok-push_some.ensures ∙ ap (λ (x : List ℕ). x ++ option_to_list spelt.second) c.in_ok-push.ensures.items)
    ∙ token_more c.loop-left.units.items c.loop-left.left.now _ c.behind-left.result.now _ spelt here (rest_is c.loop-left.left.now)
    c.token_spelt_at-spelt.ensures.units c.token_spelt_at-spelt.ensures.more c.behind-left.ensures c.loop-left.invariant

pub returns : goal.returns
returns c =
    let none : length c.loop-left.left.now ≤ 0 = grind (arith, nat_tests, c.is_empty.ensures, c.loop-left-test.false) in
    token_end c.loop-left.units.items c.loop-left.left.now _ none c.loop-left.invariant

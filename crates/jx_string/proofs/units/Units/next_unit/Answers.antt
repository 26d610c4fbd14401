use Rattle.std.proofs.Common.{arith}
use Rattle.std.proofs.lemmas.Bool.Decides.{nat_tests}
use Rattle.jx_index.proofs.UnitSteps.{rest_is}
use Rattle.jx_string.proofs.UnitSteps.{none_left, one_more}
use Rattle.jx_string.proofs.units.Units.next_unit.Goals as goal

pub returns-then-is_empty-clause-unit : goal.returns-then-is_empty-clause-unit
returns-then-is_empty-clause-unit c = none_left c.args.self.now.pending c.args.self.now.rest.now c.in_default.is (grind (arith, nat_tests, c.is_empty.ensures, c.if-is_empty.true))

pub returns-clause-unit : goal.returns-clause-unit
returns-clause-unit c =
    one_more c.args.self.now.pending c.args.self.now.rest.now _ c.behind-self.result.now c.spelt_at-spelt.result c.in_default.is
    (grind (arith, nat_tests, c.is_empty.ensures, c.if-is_empty.false)) (rest_is c.args.self.now.rest.now) c.spelt_at-spelt.ensures.units c.spelt_at-spelt.ensures.more c.behind-self.ensures

use Rattle.std.proofs.Common.{◌++◌, sym, subst}
use Rattle.jx_reduce.specs.Reducer.{HasReduced}
use Rattle.jx_reduce.proofs.OneByOne.{over_all}
use Rattle.jx_reduce.proofs.reducing.reducer.Reducer.is_over.Goals as goal

pub returns-then-is_none : goal.returns-then-is_none
returns-then-is_none c some marks more h =
    let i = c.self.inside in
    subst (λ r. HasReduced (marks ++ more) r) c.self.view_is
    (over_all i.depth i.making.string i.making.first i.making.levels i.limits i.last i.rising
    c.is_none.result c.is_some.result c.is_none.ensures c.if-is_none.true c.is_some.ensures some
    c.self.invariant.ready marks more (subst (HasReduced marks) (sym c.self.view_is) h))

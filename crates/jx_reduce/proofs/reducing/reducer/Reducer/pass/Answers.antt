use Rattle.std.proofs.Common.{sym, subst, ◌∙◌}
use Rattle.jx_reduce.specs.Reducer.{HasReduced}
use Rattle.jx_reduce.specs.inside.Reducers.{reducer_of}
use Rattle.jx_reduce.specs.inside.Structures.{of_making}
use Rattle.jx_reduce.proofs.OneByOne.{kept_ready, one_more, passed_step, same_value, value}
use Rattle.jx_reduce.proofs.reducing.reducer.Reducer.pass.Goals as goal

pub invariant_of-self : goal.invariant_of-self
invariant_of-self c =
    let i = c.self.inside in
    let p = c.pass_quiet in
    record {
      room = p.ensures.room;
      ready = λ rising.
          kept_ready i.depth i.making.string i.making.levels p.new.self i.limits p.new.limits i.last c.args.mark i.making.first p.result
          p.ensures.went p.ensures.read p.ensures.same (c.self.invariant.ready rising);
    }

pub returns-clause-marks : goal.returns-clause-marks
returns-clause-marks c taken marks h =
    let i = c.self.inside in
    let p = c.pass_quiet in
    one_more (reducer_of i) (value i.depth (of_making i.depth (record { string = i.making.string; first = i.making.first; levels = p.new.self })) i.last i.rising) c.args.mark
    (λ may rising up.
    passed_step i.depth i.making.string i.making.levels p.new.self i.limits p.new.limits i.last c.args.mark i.making.first
    (p.ensures.went taken) (p.ensures.read taken) (c.self.invariant.ready rising) may up i.rising rising)
    marks (subst (HasReduced marks) (sym c.self.view_is) h)

pub returns-clause-same : goal.returns-clause-same
returns-clause-same c left =
    let i = c.self.inside in
    let p = c.pass_quiet in
    same_value i.depth i.making.string i.making.levels p.new.self i.limits p.new.limits i.last c.args.mark i.making.first i.rising (p.ensures.same left).0
    ∙ c.self.view_is

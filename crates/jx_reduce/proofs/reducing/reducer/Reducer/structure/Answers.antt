use Rattle.std.proofs.Common.{◌<◌, subst, ap, ◌∙◌}
use Rattle.jx_reduce.specs.Reducer.{ReducerValue, past}
use Rattle.jx_reduce.specs.Structure.{AreIn}
use Rattle.jx_reduce.proofs.reducing.reducer.Reducer.structure.Goals as goal

pub returns-clause-below : goal.returns-clause-below
returns-clause-below c =
    subst (λ (r : ReducerValue). AreIn (λ p. p < past r.last) r.structure) c.self.view_is
    (c.self.invariant.ready (ap (λ (r : ReducerValue). r.rising) c.self.view_is ∙ c.requires.rising)).below

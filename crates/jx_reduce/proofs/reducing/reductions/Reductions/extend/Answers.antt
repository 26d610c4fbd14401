use Rattle.std.proofs.Common.{◌≤◌, ◌<◌, sym, ◌∙◌, ap, subst}
use Rattle.jx_reduce.specs.Reductions.{Forms, IsSound, IsBefore, SpansIn}
use Rattle.jx_reduce.proofs.Sound.{sound_join, in_join}
use Rattle.jx_reduce.proofs.Extended.{extended, join_of}
use Rattle.jx_reduce.proofs.Runs.{is_of_join}
use Rattle.jx_reduce.proofs.reducing.reductions.Reductions.extend.Goals as goal

pub invariant_of-self-2 : goal.invariant_of-self-2
invariant_of-self-2 c = (
  sound_join _ _ _
      (extended c.args.self.now c.args.right.now c.self.inside c.reserve_lefts.new.lefts c.extend_lefts.new.lefts c.self.view_is c.requires.depth c.self.invariant.1
      c.reserve_lefts.ensures.same c.extend_lefts.ensures.forms)
      (subst (λ l. IsBefore l c.args.right.now) (sym c.self.view_is) c.requires.before) c.self.invariant.0 (subst IsSound c.right.view_is c.right.invariant.0),
  c.extend_lefts.ensures.depths ∙ c.reserve_lefts.ensures.depths ∙ c.self.invariant.1,
)

pub returns-clause-joined : goal.returns-clause-joined
returns-clause-joined c = join_of _ _ _ _ c.self.view_is
    (extended c.args.self.now c.args.right.now c.self.inside c.reserve_lefts.new.lefts c.extend_lefts.new.lefts c.self.view_is c.requires.depth c.self.invariant.1
    c.reserve_lefts.ensures.same c.extend_lefts.ensures.forms)
    c.requires.before c.self.invariant.0 (subst IsSound c.right.view_is c.right.invariant.0)

pub returns-clause-marks : goal.returns-clause-marks
returns-clause-marks c = λ ms ns a b. is_of_join ms ns c.args.self.now c.args.right.now _ c.requires.depth (ap (λ (f : Forms). f.depth) c.self.view_is) a b (returns-clause-joined c)

pub returns-clause-offsets : goal.returns-clause-offsets
returns-clause-offsets c = λ low high a b. in_join (λ p. (low ≤ p) × (p < high)) _ _ _
    (extended c.args.self.now c.args.right.now c.self.inside c.reserve_lefts.new.lefts c.extend_lefts.new.lefts c.self.view_is c.requires.depth c.self.invariant.1
    c.reserve_lefts.ensures.same c.extend_lefts.ensures.forms)
    (subst (SpansIn low high) (sym c.self.view_is) a) b

use Rattle.std.proofs.Common.{◌+◌, ◌<◌, length, ap, refl, subst, ◌∙◌, arith, length-drop}
use Rattle.jx_maps.specs.Follow.{IsIn}
use Rattle.jx_maps.specs.View.{path_from}
use Rattle.jx_maps.proofs.Walking.{stepped, path-walk, no-path}
use Rattle.jx_maps.proofs.path.Path.take_next.Goals as goal

pub returns-in_default : goal.returns-in_default
returns-in_default c = record { first = refl; none = λ e. rw (← c.self.view_is) (no-path c.self.inside.number c.self.inside.rest.now c.self.inside.next c.in_default.not-Ahead) }

pub invariant_of-self : goal.invariant_of-self
invariant_of-self c =
    let at = c.self.inside in
    let v = c.self.invariant in
    let h = stepped at.rest.now c.walk.result.1.now at.next c.in-Ahead.skip c.walk.result.0.now c.in-Ahead.is v.0 v.1 c.walk.ensures.segment c.walk.ensures.more in
    let low : c.in-Ahead.skip < length at.rest.now = subst (IsIn (length at.rest.now)) c.in-Ahead.is v.0 in
    let d = length-drop (c.in-Ahead.skip + 1) at.rest.now in
    let m = ap length c.walk.ensures.more in
    let w = v.2 in
    rw c.next-self-inside.ensures (h.next, h.all, omega (arith, d, m, low, w))

pub returns-clause-first : goal.returns-clause-first
returns-clause-first c =
    let at = c.self.inside in
    let low : c.in-Ahead.skip < length at.rest.now = subst (IsIn (length at.rest.now)) c.in-Ahead.is c.self.invariant.0 in
    rw (← c.self.view_is, c.walk.ensures.more, c.next-self-inside.ensures)
    (ap (path_from at.number at.rest.now) c.in-Ahead.is ∙ path-walk at.number at.rest.now c.in-Ahead.skip c.walk.result.0.now low c.walk.ensures.segment)

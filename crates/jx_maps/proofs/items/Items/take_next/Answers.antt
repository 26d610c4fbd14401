use Rattle.std.proofs.Common.{◌++◌, sym, ap, ◌∙◌, arith}
use Rattle.std.proofs.lemmas.List.{nil_from_length}
use Rattle.jx_maps.specs.Follow.{follow}
use Rattle.jx_maps.proofs.Walking.{stepped, leads-out}
use Rattle.jx_maps.proofs.items.Items.take_next.Goals as goal

pub loop-first-preserved : goal.loop-first-preserved
loop-first-preserved g c =
    let v = c.loop-first.invariant in
    let at = c.loop-first.self-inside in
    let of = g.T.Kept.in_track in
    let h = stepped at.rest.now c.walk.result.1.now at.next c.in-Ahead.skip c.walk.result.0.now c.in-Ahead.is v.next v.all c.walk.ensures.segment c.walk.ensures.more in
    let none = nil_from_length at.here.now (omega (arith, c.in_default.ensures.cases)) in
    rw (c.kept_by-self-inside.ensures, c.next-self-inside.ensures)
    (record {
      same = sym (g.met.T.Kept.behind_segment c.walk.result.0.now (follow c.walk.result.1.now c.walk.result.0.now.next)) ∙ ap of (sym h.track) ∙ ap (λ xs. xs ++ of (follow at.rest.now at.next)) (sym none) ∙ v.same;
      next = h.next;
      all = h.all;
    })

-- nothing stands here, and the track leads out
pub returns-in_default-next : goal.returns-in_default-next
returns-in_default-next g c =
    let at = c.loop-first.self-inside in
    let of = g.T.Kept.in_track in
    let none = nil_from_length at.here.now (omega (arith, c.in_default.ensures.cases)) in
    let out = leads-out at.rest.now at.next c.in_default-next.not-Ahead in
    record {
      first = sym c.loop-first.invariant.same;
      none = λ e. ap (λ xs. xs ++ of (follow at.rest.now at.next)) none ∙ ap of out.is ∙ g.met.T.Kept.at_exit out.exit;
    }

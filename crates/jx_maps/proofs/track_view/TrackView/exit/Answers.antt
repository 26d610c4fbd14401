use Rattle.std.proofs.Common.{sym, ap, ◌∙◌}
use Rattle.jx_lex.specs.Lex.{Track}
use Rattle.jx_maps.specs.Follow.{follow}
use Rattle.jx_maps.proofs.Walking.{stepped}
use Rattle.jx_maps.proofs.track_view.TrackView.exit.Goals as goal

pub loop-next-preserved : goal.loop-next-preserved
loop-next-preserved c =
    let v = c.loop-next.invariant in
    let h = stepped c.loop-next.rest.now c.walk.result.1.now c.loop-next.next c.in-Ahead.skip c.walk.result.0.now c.in-Ahead.is v.next v.all c.walk.ensures.segment c.walk.ensures.more in
    rw c.next-next.ensures (record { same = sym (ap (λ (t : Track). t.exit) h.track) ∙ v.same; next = h.next; all = h.all })

pub returns-in-State : goal.returns-in-State
unfolding follow
returns-in-State c = record { value = ap (λ g. (follow c.loop-next.rest.now g).exit) (sym c.in-State.is) ∙ c.loop-next.invariant.same }

pub returns-in-Fault : goal.returns-in-Fault
unfolding follow
returns-in-Fault c = record { value = ap (λ g. (follow c.loop-next.rest.now g).exit) (sym c.in-Fault.is) ∙ c.loop-next.invariant.same }

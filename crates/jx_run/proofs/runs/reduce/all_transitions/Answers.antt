use Rattle.std.proofs.Common.{◌+◌, take, ap, sym, subst, ◌∙◌, arith}
use Rattle.jx_lex.specs.Lex.{Track}
use Rattle.jx_lex.specs.Ordinal.{all_states}
use Rattle.jx_run.specs.declared.runs.transition.Transition.{Transition}
use Rattle.jx_run.specs.inside.Reduced.{AreTransitionsOf}
use Rattle.jx_run.proofs.Reducing.{each_next}
use Rattle.jx_run.proofs.runs.reduce.all_transitions.Goals as goal

pub loop-place-preserved : goal.loop-place-preserved
loop-place-preserved c =
    let l = c.loop-place in
    let m = c.args.map.now in
    let n = c.in_ok-structure.ensures in
    let news = c.number_of.new.self.structures.items in
    let w : Transition = record { exit = c.exit-exit.result; structure = c.in_ok-structure.structure } in
    let before = l.invariant.few in
    let now = n.few in
    record {
      paths = n.made;
      lone = n.lone;
      few = omega (arith, before, now);
      transitions = subst (AreTransitionsOf c.args.depth m news (take (l.place + 1) all_states)) (sym c.in_ok-push.ensures.items)
          (each_next c.args.depth m c.all-states.result l.place l.paths.structures.items news l.transitions.items _ w
          (let t = c.loop-place-test.true in omega (arith, t)) c.all-states.ensures l.invariant.transitions n.above
          (record { exit = c.exit-exit.ensures.value ∙ ap (λ (t : Track). t.exit) c.entry.ensures.track; marks = n.number }));
    }

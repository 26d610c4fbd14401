use Rattle.std.proofs.Common.{◌+◌, length, take, sym, subst, arith}
use Rattle.jx_lex.specs.Ordinal.{all_states}
use Rattle.jx_run.specs.inside.Joins.{AreJoinedTransitions}
use Rattle.jx_run.specs.OutcomeRun.{AreUsed}
use Rattle.jx_run.proofs.RunJoin.{joined_next}
use Rattle.jx_run.proofs.Transitions.{used_more}
use Rattle.jx_run.proofs.runs.outcome_run.OutcomeRun.all_onward.Goals as goal

pub loop-place-preserved : goal.loop-place-preserved
loop-place-preserved c =
    let l = c.loop-place in
    let left = c.args.self.now in
    let right = c.args.right.now in
    let n = c.in_ok-structure.ensures in
    let news = c.number_of.new.self.structures.items in
    let before = l.invariant.few in
    let now = n.few in
    record {
      made = n.made;
      within = n.within;
      few = omega (arith, before, now);
      used = subst (λ ws. AreUsed ws (length news)) (sym c.in_ok-push.ensures.items)
          (used_more l.transitions.items (length l.joins.structures.items) (length news) _ now n.last l.invariant.used);
      transitions = subst (AreJoinedTransitions left right news (take (l.place + 1) all_states)) (sym c.in_ok-push.ensures.items)
          (joined_next left right c.all-states.result l.place l.joins.structures.items news c.number_of.new.self.pairs.items l.transitions.items _ c.onward-exit.result.0 c.onward-exit.result.1
          c.in_ok-structure.structure (let t = c.loop-place-test.true in omega (arith, t)) c.all-states.ensures l.invariant.transitions n.above n.made n.within n.number c.onward-exit.ensures.goes);
    }

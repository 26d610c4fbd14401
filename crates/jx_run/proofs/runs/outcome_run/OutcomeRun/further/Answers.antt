use Rattle.std.proofs.Common.{◌+◌, ◌++◌, take, ap, sym, subst, arith}
use Rattle.jx_lex.specs.Ordinal.{all_states}
use Rattle.jx_run.specs.inside.Joins.{AreJoinedTransitions}
use Rattle.jx_run.specs.OutcomeRun.{OutcomeRunValue, IsWellFormed}
use Rattle.jx_run.proofs.RunJoin.{all_within, behind_above, joined_by}
use Rattle.jx_run.proofs.runs.outcome_run.OutcomeRun.further.Goals as goal

pub loop-place-preserved : goal.loop-place-preserved
loop-place-preserved c =
    let l = c.loop-place in
    let left = c.args.self.now in
    let right = c.args.right.now in
    let n = c.in_ok-structure.ensures in
    let news = c.index_of_pair.new.joins.structures.items in
    let before = l.invariant.few in
    let now = n.few in
    let order = c.right.invariant.order in
    let start = ap (λ (v : OutcomeRunValue). v.start) c.right.view_is in
    let end = ap (λ (v : OutcomeRunValue). v.end) c.right.view_is in
    record {
      made = n.made;
      within = n.within;
      few = omega (arith, before, now);
      transitions = subst (AreJoinedTransitions left right (left.structures ++ news) (take (l.place + 1) all_states)) (sym c.in_ok-push.ensures.items)
          (joined_by left right c.all-states.result l.place (left.structures ++ l.joins.structures.items) (left.structures ++ news) l.transitions.items _ c.onward-exit.result.0 c.onward-exit.result.1
          c.in_ok-structure.structure (let t = c.loop-place-test.true in omega (arith, t)) c.all-states.ensures l.invariant.transitions
          (behind_above left.structures l.joins.structures.items news n.above) n.made_at
          (all_within c.spans_of_structures.ensures.wider left right news (subst IsWellFormed c.self.view_is c.self.invariant) c.requires.neighbours (omega (arith, order, start, end)) n.within)
          c.onward-exit.ensures.goes);
    }

pub returns-clause-within : goal.returns-clause-within
returns-clause-within c =
    let l = c.loop-place in
    let order = c.right.invariant.order in
    let start = ap (λ (v : OutcomeRunValue). v.start) c.right.view_is in
    let end = ap (λ (v : OutcomeRunValue). v.end) c.right.view_is in
    all_within c.spans_of_structures.ensures.wider c.args.self.now c.args.right.now l.joins.structures.items (subst IsWellFormed c.self.view_is c.self.invariant) c.requires.neighbours
    (omega (arith, order, start, end)) l.invariant.within

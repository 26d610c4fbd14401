use Rattle.std.proofs.Common.{◌++◌, ap, sym, subst, arith}
use Rattle.jx_run.specs.OutcomeRun.{OutcomeRunValue, IsOutcomeRun, IsWellFormed}
use Rattle.jx_run.proofs.RunJoin.{any_rest, joined_seen, joined_whole, rest_is_of}
use Rattle.jx_run.proofs.runs.outcome_run.OutcomeRun.joined.Goals as goal

pub invariant_of-result : goal.invariant_of-result
invariant_of-result c =
    let l = c.args.self.now in
    let r = c.args.right.now in
    let ws = c.in_ok-transitions.transitions.items in
    let fs = c.in_ok-transitions.structures.items in
    let low = c.self.invariant.order in
    let high = c.right.invariant.order in
    let start = ap (λ (v : OutcomeRunValue). v.start) c.self.view_is in
    let end = ap (λ (v : OutcomeRunValue). v.end) c.self.view_is in
    let next = ap (λ (v : OutcomeRunValue). v.start) c.right.view_is in
    let last = ap (λ (v : OutcomeRunValue). v.end) c.right.view_is in
    let mid = c.requires.neighbours in
    subst IsWellFormed (sym (joined_seen _ l _ r ws fs c.self.view_is c.right.view_is))
    (joined_whole l r ws fs (omega (arith, low, high, start, end, next, last, mid)) c.in_ok-transitions.ensures.joined)

pub returns-clause-of : goal.returns-clause-of
returns-clause-of c xs ys h k =
    let l = c.args.self.now in
    let r = c.args.right.now in
    let ws = c.in_ok-transitions.transitions.items in
    let fs = c.in_ok-transitions.structures.items in
    subst (IsOutcomeRun (xs ++ ys)) (sym (joined_seen _ l _ r ws fs c.self.view_is c.right.view_is))
    (rest_is_of l r ws fs (subst IsWellFormed c.self.view_is c.self.invariant) c.in_ok-transitions.ensures.joined c.requires.depth c.requires.neighbours xs ys h (any_rest l r ys k))

pub returns-clause-rest : goal.returns-clause-rest
returns-clause-rest c xs ys h k =
    let l = c.args.self.now in
    let r = c.args.right.now in
    let ws = c.in_ok-transitions.transitions.items in
    let fs = c.in_ok-transitions.structures.items in
    subst (IsOutcomeRun (xs ++ ys)) (sym (joined_seen _ l _ r ws fs c.self.view_is c.right.view_is))
    (rest_is_of l r ws fs (subst IsWellFormed c.self.view_is c.self.invariant) c.in_ok-transitions.ensures.joined c.requires.depth c.requires.neighbours xs ys h k)

use Rattle.std.proofs.Common.{◌++◌, ap, sym, subst, ◌∙◌, arith}
use Rattle.jx_run.specs.OutcomeRun.{OutcomeRunValue, IsOutcomeRun, IsWellFormed}
use Rattle.jx_run.proofs.RunJoin.{any_rest, joined_seen, joined_whole, rest_is_of}
use Rattle.jx_run.proofs.runs.outcome_run.OutcomeRun.added.Goals as goal

pub invariant_of-left : goal.invariant_of-left
invariant_of-left c =
    let l = c.args.self in
    let r = c.args.right.now in
    let ws = c.args.transitions.items in
    let fs = l.structures ++ c.args.more.items in
    let low = c.left.invariant.order in
    let high = c.right.invariant.order in
    let start = ap (λ (v : OutcomeRunValue). v.start) c.left.view_is in
    let end = ap (λ (v : OutcomeRunValue). v.end) c.left.view_is in
    let next = ap (λ (v : OutcomeRunValue). v.start) c.right.view_is in
    let last = ap (λ (v : OutcomeRunValue). v.end) c.right.view_is in
    let mid = c.requires.neighbours in
    let items = c.in-Ok.ensures.ok ∙ ap (λ (v : OutcomeRunValue). v.structures ++ c.args.more.items) c.left.view_is in
    subst (λ xs. IsWellFormed (record { depth = c.left.inside.depth; start = c.left.inside.span.start; end = c.right.inside.span.end; transitions = ws; structures = xs })) (sym items)
    (subst IsWellFormed (sym (joined_seen _ l _ r ws fs c.left.view_is c.right.view_is)) (joined_whole l r ws fs (omega (arith, low, high, start, end, next, last, mid)) c.requires.joined))

pub returns-in-Ok-clause-of : goal.returns-in-Ok-clause-of
returns-in-Ok-clause-of c xs ys h k =
    let l = c.args.self in
    let r = c.args.right.now in
    let ws = c.args.transitions.items in
    let fs = l.structures ++ c.args.more.items in
    let items = c.in-Ok.ensures.ok ∙ ap (λ (v : OutcomeRunValue). v.structures ++ c.args.more.items) c.left.view_is in
    subst (λ zs. IsOutcomeRun (xs ++ ys) (record { depth = c.left.inside.depth; start = c.left.inside.span.start; end = c.right.inside.span.end; transitions = ws; structures = zs })) (sym items)
    (subst (IsOutcomeRun (xs ++ ys)) (sym (joined_seen _ l _ r ws fs c.left.view_is c.right.view_is))
    (rest_is_of l r ws fs (subst IsWellFormed c.left.view_is c.left.invariant) c.requires.joined c.requires.depth c.requires.neighbours xs ys h (any_rest l r ys k)))

pub returns-in-Ok-clause-rest : goal.returns-in-Ok-clause-rest
returns-in-Ok-clause-rest c xs ys h k =
    let l = c.args.self in
    let r = c.args.right.now in
    let ws = c.args.transitions.items in
    let fs = l.structures ++ c.args.more.items in
    let items = c.in-Ok.ensures.ok ∙ ap (λ (v : OutcomeRunValue). v.structures ++ c.args.more.items) c.left.view_is in
    subst (λ zs. IsOutcomeRun (xs ++ ys) (record { depth = c.left.inside.depth; start = c.left.inside.span.start; end = c.right.inside.span.end; transitions = ws; structures = zs })) (sym items)
    (subst (IsOutcomeRun (xs ++ ys)) (sym (joined_seen _ l _ r ws fs c.left.view_is c.right.view_is))
    (rest_is_of l r ws fs (subst IsWellFormed c.left.view_is c.left.invariant) c.requires.joined c.requires.depth c.requires.neighbours xs ys h k))

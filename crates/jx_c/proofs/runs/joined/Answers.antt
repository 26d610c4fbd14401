use Rattle.std.proofs.Common.{◌++◌, rules, subst, sym}
use Rattle.jx_c.specs.Runs.{apart, for_both, no_memory, IsJoinStatus}
use Rattle.jx_c.proofs.Records.{left_lost, right_lost}
use Rattle.jx_c.proofs.runs.joined.Goals as goal

pub returns-in-Ok-encode-clause-of : goal.returns-in-Ok-encode-clause-of
returns-in-Ok-encode-clause-of c xs ys from other depth left right =
    c.in-Ok-encode.ensures (xs ++ ys) from depth (c.in-Ok.ensures.of xs ys from other depth (c.in_ok-left.ensures.reads xs from depth left) (c.in_ok-right.ensures.reads ys other depth right))

pub returns-in_err-left-clause-why : goal.returns-in_err-left-clause-why
returns-in_err-left-clause-why c =
    let lost = left_lost c.args.left.now c.args.right.now _ c.in_err-left.ensures.status c.in_err-left.ensures.sealed c.in_err-left.ensures.none in
    search (rules, lost)

pub returns-in_err-right-clause-why : goal.returns-in_err-right-clause-why
returns-in_err-right-clause-why c =
    let lost = right_lost c.args.left.now c.args.right.now _ c.in_ok-left.left c.in_ok-left.ensures.found c.in_err-right.ensures.status c.in_err-right.ensures.sealed c.in_err-right.ensures.none in
    search (rules, lost)

pub returns-in-Err-clause-why : goal.returns-in-Err-clause-why
returns-in-Err-clause-why c =
    subst (IsJoinStatus c.args.left.now c.args.right.now) (sym c.status_of.ensures)
    (apart c.in_ok-left.left c.in_ok-right.right c.in-Err.mismatch c.in_ok-left.ensures.found c.in_ok-right.ensures.found c.in-Err.ensures.why)

pub returns-in_default-join-clause-why : goal.returns-in_default-join-clause-why
returns-in_default-join-clause-why c = no_memory (for_both (record { first = c.in_ok-left.left; second = c.in_ok-right.right; says_first = c.in_ok-left.ensures.found; says_second = c.in_ok-right.ensures.found; meet = search rules }))

pub returns-clause-why : goal.returns-clause-why
returns-clause-why c = no_memory (for_both (record { first = c.in_ok-left.left; second = c.in_ok-right.right; says_first = c.in_ok-left.ensures.found; says_second = c.in_ok-right.ensures.found; meet = search rules }))

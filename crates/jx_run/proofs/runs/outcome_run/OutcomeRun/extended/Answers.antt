use Rattle.std.proofs.Common.{ap, sym, subst, ◌∙◌, arith}
use Rattle.jx_reduce.specs.Structure.{IsBefore, SpansIn}
use Rattle.jx_run.specs.inside.Joins.{GoesOnWith, IsOnward}
use Rattle.jx_run.specs.OutcomeRun.{OutcomeRunValue, IsFormWithin}
use Rattle.jx_run.proofs.RunJoin.{joined_within, made_of, right_within, stays_within}
use Rattle.jx_run.proofs.Transitions.{one_of}
use Rattle.jx_run.proofs.runs.outcome_run.OutcomeRun.extended.Goals as goal

pub returns-in-None-clause-made : goal.returns-in-None-clause-made
returns-in-None-clause-made c a k =
    subst (λ o. IsOnward c.args.right.now.structures o a c.in_ok-marks.marks) (sym c.in-None.is)
    (c.in_ok-marks.ensures ∙ one_of c.args.self.now.structures c.args.pair.left c.structure.result.now a c.structure.ensures.structure k)

pub returns-in-None-clause-within : goal.returns-in-None-clause-within
returns-in-None-clause-within c =
    let l = c.args.self.now in
    let r = c.args.right.now in
    let order = c.right.invariant.order in
    let start = ap (λ (v : OutcomeRunValue). v.start) c.right.view_is in
    let end = ap (λ (v : OutcomeRunValue). v.end) c.right.view_is in
    let mid = c.requires.neighbours in
    subst (IsFormWithin l.depth l.start r.end) (sym c.in_ok-marks.ensures) (stays_within c.spans_of_structures.ensures.wider l.depth l.start l.end r.end c.structure.result.now c.structure.ensures.within (omega (arith, order, start, end, mid)))

pub extended-requires-clause-before : goal.extended-requires-clause-before
extended-requires-clause-before c =
    let l = c.args.self.now in
    let r = c.args.right.now in
    let b = c.structure-in-Some.result.now in
    subst (λ f. IsBefore f b) (sym c.in_ok-marks.ensures)
    (c.spans_of_structures.ensures.before l.start l.end r.end c.structure.result.now b c.structure.ensures.within.offsets
    (subst (λ m. SpansIn m r.end b) (sym c.requires.neighbours) c.structure-in-Some.ensures.within.offsets))

pub returns-in_ok-joined-in-Some-clause-made : goal.returns-in_ok-joined-in-Some-clause-made
returns-in_ok-joined-in-Some-clause-made c =
    let a = c.structure.result.now in
    let b = c.structure-in-Some.result.now in
    let e = c.in_ok-joined-in-Some.ensures in
    let goes : GoesOnWith c.in_ok-marks.marks b c.in_ok-joined-in-Some.joined = record { joined = e.joined; depth = c.in_ok-joined-in-Some.ensures.depth; offsets = e.offsets } in
    made_of c.args.self.now c.args.right.now c.args.pair c.in-Some.number a b c.in_ok-joined-in-Some.joined c.in-Some.is c.structure.ensures.structure c.structure-in-Some.ensures.structure
    (subst (λ f. GoesOnWith f b c.in_ok-joined-in-Some.joined) c.in_ok-marks.ensures goes)

pub returns-in_ok-joined-in-Some-clause-within : goal.returns-in_ok-joined-in-Some-clause-within
returns-in_ok-joined-in-Some-clause-within c =
    let l = c.args.self.now in
    let r = c.args.right.now in
    let a = c.structure.result.now in
    let b = c.structure-in-Some.result.now in
    let e = c.in_ok-joined-in-Some.ensures in
    let goes : GoesOnWith c.in_ok-marks.marks b c.in_ok-joined-in-Some.joined = record { joined = e.joined; depth = c.in_ok-joined-in-Some.ensures.depth; offsets = e.offsets } in
    let low = c.structure.ensures.order in
    let high = c.structure-in-Some.ensures.order in
    let mid = c.requires.neighbours in
    joined_within c.spans_of_structures.ensures.wider l.depth l.start l.end r.end a b c.in_ok-joined-in-Some.joined c.structure.ensures.within
    (right_within l.depth r.depth l.end r.start r.end b c.requires.depth c.requires.neighbours c.structure-in-Some.ensures.within) low (omega (arith, high, mid))
    (subst (λ f. GoesOnWith f b c.in_ok-joined-in-Some.joined) c.in_ok-marks.ensures goes)

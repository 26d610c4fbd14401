use Rattle.std.proofs.Common.{subst}
use Rattle.std.specs.Prelude.{IsSomeAnd}
use Rattle.jx_run.specs.inside.Reduced.{IsReduced}
use Rattle.jx_run.proofs.Reducing.{reduced_before, reduced_more, segment_rises}
use Rattle.jx_run.proofs.runs.reduce.take_in.Goals as goal

pub fill-requires-clause-rising : goal.fill-requires-clause-rising
fill-requires-clause-rising c = segment_rises c.requires.rising.0 c.args.segment.now.marks c.requires.rising.2

pub extended-requires-clause-before : goal.extended-requires-clause-before
extended-requires-clause-before c =
    let slot : IsReduced c.args.reduced.depth c.args.segment.now.marks c.in-Some.slot =
    subst (λ o. IsSomeAnd o (IsReduced c.args.reduced.depth c.args.segment.now.marks)) c.in-Some.is
    (subst (λ d. IsSomeAnd c.fill.new.slot (IsReduced d c.args.segment.now.marks)) c.depth.ensures c.in_ok-fill.ensures.slot) in
    reduced_before c.spans_of_structures.ensures.before c.args.reduced.depth c.requires.rising.0 c.args.segment.now.marks c.args.reduced c.in-Some.slot c.requires.rising.1 slot c.requires.rising.2

pub returns-clause-reduced : goal.returns-clause-reduced
returns-clause-reduced c =
    let slot : IsReduced c.args.reduced.depth c.args.segment.now.marks c.in-Some.slot =
    subst (λ o. IsSomeAnd o (IsReduced c.args.reduced.depth c.args.segment.now.marks)) c.in-Some.is
    (subst (λ d. IsSomeAnd c.fill.new.slot (IsReduced d c.args.segment.now.marks)) c.depth.ensures c.in_ok-fill.ensures.slot) in
    let e = c.in_ok-more-in-Some.ensures in
    λ marks h. reduced_more c.args.reduced.depth marks c.args.segment.now.marks c.args.reduced c.in-Some.slot c.in_ok-more-in-Some.more h slot e.depth e.marks e.offsets

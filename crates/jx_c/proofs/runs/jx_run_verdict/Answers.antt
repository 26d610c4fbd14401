use Rattle.std.proofs.Common.{◌≡◌, sym, ap, ◌∙◌, inr}
use Rattle.jx_portion.specs.Portion.{PortionValue}
use Rattle.jx_c.specs.Runs.{judged, of_other_bytes}
use Rattle.jx_c.proofs.Records.{place_of, verdict_lost}
use Rattle.jx_c.proofs.runs.jx_run_verdict.Goals as goal

pub returns-in-Err-clause-told : goal.returns-in-Err-clause-told
returns-in-Err-clause-told c bytes from depth is start end = inr (c.in-Err.ensures.reads bytes from depth is)

pub returns-then-not-covers-clause-told : goal.returns-then-not-covers-clause-told
returns-then-not-covers-clause-told c bytes from depth is start end =
    let zero : c.in-Ok.portion.run.start ≡ 0 = sym (ap (λ (v : PortionValue). v.run.start) c.portion.view_is) ∙ c.portion.invariant.0 in
    let place = place_of bytes from depth c.in-Ok.portion (c.in-Ok.ensures.reads bytes from depth is) zero in
    let yes = c.covers.ensures.1 (start ∙ sym place.0, end ∙ sym place.1) in
    let no = c.if-not-covers.true in
    cc

pub returns-clause-judged : goal.returns-clause-judged
returns-clause-judged c bytes from depth is ok = (c.verdict.result, (c.verdict.ensures bytes from depth (c.in-Ok.ensures.reads bytes from depth is), c.shown.ensures))

pub returns-clause-covered : goal.returns-clause-covered
returns-clause-covered c bytes from depth is ok =
    let zero : c.in-Ok.portion.run.start ≡ 0 = sym (ap (λ (v : PortionValue). v.run.start) c.portion.view_is) ∙ c.portion.invariant.0 in
    let place = place_of bytes from depth c.in-Ok.portion (c.in-Ok.ensures.reads bytes from depth is) zero in
    let here = c.covers.ensures.0 c.if-not-covers.false in
    (here.0 ∙ place.0, here.1 ∙ place.1)

pub returns-in-Err-clause-status : goal.returns-in-Err-clause-status
returns-in-Err-clause-status c = verdict_lost c.args.run.now c.args.start c.args.end _ c.in-Err.ensures.status c.in-Err.ensures.sealed c.in-Err.ensures.none

pub returns-then-not-covers-clause-status : goal.returns-then-not-covers-clause-status
returns-then-not-covers-clause-status c =
    of_other_bytes c.in-Ok.portion c.in-Ok.ensures.found (λ here. let yes = c.covers.ensures.1 here in let no = c.if-not-covers.true in cc)

pub returns-clause-status : goal.returns-clause-status
returns-clause-status c =
    let here = c.covers.ensures.0 c.if-not-covers.false in
    judged c.in-Ok.portion c.in-Ok.ensures.found here.0 here.1

use Rattle.std.proofs.Common.{◌≡◌, ◌+◌, ◌<◌, ◌++◌, length, sym, subst, ap, ◌∙◌, arith}
use Rattle.std.proofs.lemmas.List.{length-append}
use Rattle.jx_summary.specs.declared.span.Span.{Span}
use Rattle.jx_run.specs.Elements.{part}
use Rattle.jx_run.specs.ElementsRun.{IsPartRun, PartRunValue}
use Rattle.jx_run.specs.ElementVerdict.{IsJudgedElement}
use Rattle.jx_run.proofs.ElementSteps.{judged_element}
use Rattle.jx_run.proofs.runs.part_run.PartRun.judged_with.Goals as goal

pub returns : goal.returns
returns c xs ys low h k =
    let left : PartRunValue = record { outcomes = c.self.inside.outcomes; open_ended = c.self.inside.open_ended } in
    let right : PartRunValue = record { outcomes = c.right.inside.outcomes; open_ended = c.right.inside.open_ended } in
    let of : IsPartRun xs left = subst (IsPartRun xs) (sym c.self.view_is) h in
    let more : IsPartRun ys right = subst (IsPartRun ys) (sym c.right.view_is) k in
    let meet : left.outcomes.end ≡ right.outcomes.start =
    (ap (λ (r : PartRunValue). r.outcomes.end) c.self.view_is ∙ c.requires.neighbours ∙ sym (ap (λ (r : PartRunValue). r.outcomes.start) c.right.view_is)) in
    let one = of.outcomes.long in
    let two = more.outcomes.long in
    let both : length (xs ++ ys) ≡ length xs + length ys = length-append xs ys in
    let here = ap (λ (s : Span). s.end) c.span-2.ensures.span in
    subst (λ (r : PartRunValue). IsJudgedElement r.outcomes.depth (part r.outcomes.start (xs ++ ys)) (record { span = record { start = c.span.result.start; end = c.span-2.result.end }; verdict = c.told.result })) c.self.view_is
    (judged_element left.outcomes.depth left.outcomes.start (xs ++ ys) c.span.result.start c.span-2.result.end c.in_ok-verdict.verdict c.open_ended_with.result c.told.result
    (ap (λ (s : Span). s.start) c.span.ensures.span)
    (here ∙ (let e : right.outcomes.end ≡ left.outcomes.start + length (xs ++ ys) = omega (arith, one, two, both, meet) in e))
    (subst (λ (r : PartRunValue). 0 < r.outcomes.start) (sym c.self.view_is) low) (c.in_ok-verdict.ensures.verdict xs ys of.outcomes more.outcomes) (c.open_ended_with.ensures xs ys h k) c.told.ensures)

use Rattle.std.proofs.Common.{◌<◌, sym, subst, ap, ◌∙◌}
use Rattle.jx_summary.specs.declared.span.Span.{Span}
use Rattle.jx_run.specs.Elements.{part}
use Rattle.jx_run.specs.ElementsRun.{IsPartRun, PartRunValue}
use Rattle.jx_run.specs.ElementVerdict.{IsJudgedElement}
use Rattle.jx_run.proofs.ElementSteps.{judged_element}
use Rattle.jx_run.proofs.runs.part_run.PartRun.judged.Goals as goal

pub returns : goal.returns
returns c bytes low k =
    let run : PartRunValue = record { outcomes = c.self.inside.outcomes; open_ended = c.self.inside.open_ended } in
    let of : IsPartRun bytes run = subst (IsPartRun bytes) (sym c.self.view_is) k in
    let span = c.span.ensures.span in
    subst (λ (r : PartRunValue). IsJudgedElement r.outcomes.depth (part r.outcomes.start bytes) (record { span = c.span.result; verdict = c.told.result })) c.self.view_is
    (judged_element run.outcomes.depth run.outcomes.start bytes c.span.result.start c.span.result.end c.verdict.result run.open_ended c.told.result
    (ap (λ (s : Span). s.start) span) (ap (λ (s : Span). s.end) span ∙ of.outcomes.long)
    (subst (λ (r : PartRunValue). 0 < r.outcomes.start) (sym c.self.view_is) low) (c.verdict.ensures.verdict bytes of.outcomes) of.open_ended c.told.ensures)

use Rattle.std.proofs.Common.{sym, subst}
use Rattle.jx_run.specs.ElementsRun.{IsPartRun, PartRunValue}
use Rattle.jx_run.proofs.ElementSteps.{open_ended_left, open_ended_right}
use Rattle.jx_run.proofs.runs.part_run.PartRun.open_ended_with.Goals as goal

pub returns-then-span : goal.returns-then-span
returns-then-span c xs ys h k =
    let right : PartRunValue = record { outcomes = c.right.inside.outcomes; open_ended = c.right.inside.open_ended } in
    open_ended_right xs ys right c.span-span.result c.span-span.ensures.span c.if-span.true (subst (IsPartRun ys) (sym c.right.view_is) k)

pub returns-else-span : goal.returns-else-span
returns-else-span c xs ys h k =
    let left : PartRunValue = record { outcomes = c.self.inside.outcomes; open_ended = c.self.inside.open_ended } in
    let right : PartRunValue = record { outcomes = c.right.inside.outcomes; open_ended = c.right.inside.open_ended } in
    open_ended_left xs ys left right c.span-span.result c.span-span.ensures.span c.if-span.false (subst (IsPartRun xs) (sym c.self.view_is) h) (subst (IsPartRun ys) (sym c.right.view_is) k)

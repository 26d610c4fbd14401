use Rattle.jx_drive.proofs.Reports.{due_weaker, lines_weaker, part_weaker}
use Rattle.jx_values.specs.Elements.{IsDue}
use Rattle.jx_values.specs.inside.ElementsTeller.{IsDueUntold}
use Rattle.jx_values.proofs.elements.report_lines.Goals as goal

pub returns-clause-due : goal.returns-clause-due
returns-clause-due g c = λ is.
    let task = c.args.task.now in
    due_weaker (IsDueUntold task c.args.errors.now c.report_by.new.beside) (IsDue task.by_texts task.content task.settings task.pointer.now) (λ text output h. h.1) _ _ _ _ (c.report_by.ensures.due is)

pub returns-clause-lines : goal.returns-clause-lines
returns-clause-lines g c = λ is.
    let task = c.args.task.now in
    lines_weaker (IsDueUntold task c.args.errors.now c.report_by.new.beside) (IsDue task.by_texts task.content task.settings task.pointer.now) (λ text output h. h.1) _ _ _ _ (c.report_by.ensures.lines is)

pub returns-clause-beginning : goal.returns-clause-beginning
returns-clause-beginning g c = λ is.
    let task = c.args.task.now in
    part_weaker (IsDueUntold task c.args.errors.now c.report_by.new.beside) (IsDue task.by_texts task.content task.settings task.pointer.now) (λ text output h. h.1) _ _ _ _ (c.report_by.ensures.beginning is)

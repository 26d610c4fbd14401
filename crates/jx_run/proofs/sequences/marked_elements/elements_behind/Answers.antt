use Rattle.std.proofs.Common.{sym, subst}
use Rattle.jx_run.specs.ElementsRun.{MarkedElementsValue}
use Rattle.jx_run.specs.inside.MarkedElements.{AreMarked}
use Rattle.jx_run.proofs.ElementSteps.{last_judged, last_empty}
use Rattle.jx_run.proofs.sequences.marked_elements.elements_behind.Goals.{then-span+in_ok-push, else-span}
use Rattle.jx_run.proofs.sequences.marked_elements.elements_behind.Goals as goal

pub returns : goal.returns
returns c limit behind h =
    let m : MarkedElementsValue = record { done = c.marked.inside.done.items; after = c.marked.inside.after } in
    let k : AreMarked limit behind m = subst (AreMarked limit behind) (sym c.marked.view_is) h in
    elim c.if-span.branch [
      | then-span+in_ok-push w ↦ rw (w.elements-is, w.in_ok-push.ensures.items)
          (last_judged limit behind m k c.span-span.result w.judged.result c.span-span.ensures.span w.if-span.true w.judged.ensures)
      | else-span w ↦ rw (w.elements-is) (last_empty limit behind m k c.span-span.result c.span-span.ensures.span w.if-span.false)
    ]

use Rattle.std.proofs.Common.{sym, subst, ◌∙◌}
use Rattle.jx_run.specs.TextRun.{IsTextRun}
use Rattle.jx_run.proofs.TextRuns.{map_is_of, outcomes_are_of, text_is_of}
use Rattle.jx_run.proofs.runs.text_run.TextRunSummary.join.Goals as goal

pub returns-in-Ok-join-clause-of : goal.returns-in-Ok-join-clause-of
returns-in-Ok-join-clause-of c xs ys h k =
    let l = c.self.inside in
    let r = c.right.inside in
    let h' = subst (IsTextRun xs) (sym c.self.view_is) h in
    let k' = subst (IsTextRun ys) (sym c.right.view_is) k in
    let outcomes = c.in-Ok.ensures in
    let map = c.in-Ok-join.ensures in
    text_is_of c.in-Ok-join.map c.in-Ok.outcomes (outcomes.start ∙ c.self.invariant.0 ∙ sym map.start) (outcomes.end ∙ c.right.invariant.1 ∙ sym map.end) _
    (map.of xs ys (map_is_of l.map l.outcomes xs h') (map_is_of r.map r.outcomes ys k'))
    (outcomes.of xs ys (outcomes_are_of l.map l.outcomes c.self.invariant.0 c.self.invariant.1 xs h') (outcomes_are_of r.map r.outcomes c.right.invariant.0 c.right.invariant.1 ys k'))

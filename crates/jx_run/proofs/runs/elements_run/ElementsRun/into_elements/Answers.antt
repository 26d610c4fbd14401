use Rattle.std.proofs.Common.{◌≡◌, sym, subst, ap, ◌∙◌}
use Rattle.std.specs.List.{AllZip}
use Rattle.jx_run.specs.Elements.{after_separators, elements, filled}
use Rattle.jx_run.specs.ElementsRun.{ElementsRunValue}
use Rattle.jx_run.specs.inside.MarkedElements.{IsSummaryOf}
use Rattle.jx_run.specs.ElementVerdict.{IsJudgedElement}
use Rattle.jx_run.proofs.ElementSteps.{unmarked_rest, marked_rest, with_first, without_first}
use Rattle.jx_run.proofs.runs.elements_run.ElementsRun.into_elements.Goals.{in-None, in-Some+in_ok-elements-in-Some, then-span+in_ok-insert, else-span}
use Rattle.jx_run.proofs.runs.elements_run.ElementsRun.into_elements.Goals as goal

pub returns : goal.returns
returns c = record {
  elements = λ bytes h.
      let is = ap (λ i. i.parted) c.self-inside.view_is ∙ c.self.view_is in
      let before = c.self-inside.inside.0.0.before in
      let marked = c.self-inside.inside.0.0.marked in
      let limit = before.outcomes.depth in
      let k : IsSummaryOf bytes before marked = subst (λ (v : ElementsRunValue). IsSummaryOf bytes v.before v.marked) (sym is) h in
      let starts : before.outcomes.start ≡ 0 = ap (λ (v : ElementsRunValue). v.before.outcomes.start) is ∙ c.requires.whole in
      let rest : AllZip (IsJudgedElement limit) (filled (after_separators before.outcomes.start bytes)) c.match-marked.elements.items =
      elim c.match-marked.branch [
        | in-None w ↦ rw (w.elements-is, w.new-elements.ensures.items, unmarked_rest bytes before marked w.in-None.is k) tt
        | in-Some+in_ok-elements-in-Some w ↦ rw (w.elements-is)
            (w.in_ok-elements-in-Some.ensures limit (after_separators before.outcomes.start bytes) (marked_rest bytes before marked w.in-Some.marked w.in-Some.is k))
      ] in
      let all : AllZip (IsJudgedElement limit) (elements 0 bytes) c.if-span.elements.items =
      elim c.if-span.branch [
        | then-span+in_ok-insert w ↦ rw (w.elements-is, w.in_ok-insert.ensures.items)
            (with_first bytes before marked c.span-span.result c.span-span.ensures.span starts k limit c.match-marked.elements.items rest w.if-span.true)
        | else-span w ↦ rw (w.elements-is)
            (without_first bytes before marked c.span-span.result c.span-span.ensures.span starts k limit c.match-marked.elements.items rest w.if-span.false)
      ] in
      subst (λ (v : ElementsRunValue). AllZip (IsJudgedElement v.before.outcomes.depth) (elements 0 bytes) c.if-span.elements.items) is all;
}

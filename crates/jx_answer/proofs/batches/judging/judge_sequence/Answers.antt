use Rattle.std.proofs.Common.{ℕ, List, subst, ◌∙◌}
use Rattle.std.specs.List.{AllZip}
use Rattle.jx_run.specs.Elements.{elements}
use Rattle.jx_run.specs.ElementsRun.{IsElementsRun, ElementsRunValue}
use Rattle.jx_run.specs.ElementVerdict.{IsJudgedElement}
use Rattle.jx_answer.proofs.Whole.{covers_all}
use Rattle.jx_answer.proofs.batches.judging.judge_sequence.Goals as goal

pub judged_by_names-requires : goal.judged_by_names-requires
judged_by_names-requires g c =
    let h = c.in_ok-run.run' in
    let w = c.in_ok-run.ensures.rest in
    let text = c.args.text.now in
    let depth = c.args.settings.now.depth in
    let run : ElementsRunValue = c.into_run.result in
    let of : IsElementsRun text run =
    subst (λ (b : List ℕ). IsElementsRun b run) (covers_all h.text text h.span c.args.cutting.now.front w.text_is w.span_is c.requires.front) c.into_run.ensures.of in
    let all : AllZip (IsJudgedElement depth) (elements 0 text) c.in_ok-all.all.items =
    subst (λ (d : ℕ). AllZip (IsJudgedElement d) (elements 0 text) c.in_ok-all.all.items) (c.into_run.ensures.depth ∙ w.depth_is) (c.in_ok-all.ensures.elements text of) in
    record { elements = c.judged_by_mark-elements.ensures.by_mark text depth c.front.ensures.value all }

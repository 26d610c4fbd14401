use Rattle.std.proofs.Common.{ℕ, List, subst}
use Rattle.std.specs.List.{AllZip}
use Rattle.jx_run.specs.Elements.{elements}
use Rattle.jx_run.specs.ElementsRun.{IsElementsRun}
use Rattle.jx_run.specs.ElementVerdict.{IsJudgedElement}
use Rattle.jx_run.proofs.ReaderSteps.{slice_all}
use Rattle.jx_index.proofs.judging.judge.Goals as goal

pub returns : goal.returns
returns c =
    let text = c.args.input.now in
    let run = c.in_ok-run.run' in
    let of : IsElementsRun text run = subst (λ (b : List ℕ). IsElementsRun b run) (slice_all text) c.in_ok-run.ensures.of in
    subst (λ (d : ℕ). AllZip (IsJudgedElement d) (elements 0 text) c.in_ok-judged.judged.items) c.in_ok-run.ensures.depth (c.in_ok-judged.ensures.elements text of)

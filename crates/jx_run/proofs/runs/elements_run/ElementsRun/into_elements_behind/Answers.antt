use Rattle.std.proofs.Common.{List, sym, subst}
use Rattle.std.specs.List.{AllZip}
use Rattle.jx_run.specs.declared.sequences.element_verdict.JudgedElement.{JudgedElement}
use Rattle.jx_run.specs.Elements.{elements}
use Rattle.jx_run.specs.ElementVerdict.{IsJudgedElement}
use Rattle.jx_run.proofs.Moves.{behind_moved}
use Rattle.jx_run.proofs.runs.elements_run.ElementsRun.into_elements_behind.Goals as goal

pub returns : goal.returns
returns c = record {
  elements = λ bytes h starts low.
      let limit = c.args.self.before.outcomes.depth in
      subst (λ (es : List JudgedElement). AllZip (IsJudgedElement limit) (elements c.args.by bytes) es) (sym c.all_moved.ensures)
      (behind_moved c.reader_and_grammar.ensures.verdict limit c.args.by bytes c.in_ok-elements.elements.items starts low (c.in_ok-elements.ensures.elements bytes h));
}

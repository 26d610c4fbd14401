use Rattle.std.proofs.Common.{List, subst}
use Rattle.jx_run.specs.declared.sequences.element_verdict.JudgedElement.{JudgedElement}
use Rattle.jx_parallel_report.specs.inside.Elements.{IsToldOf}
use Rattle.jx_parallel_report.proofs.elements_reader.part_of.Goals as goal

pub returns : goal.returns
returns c = record {
  starts = c.requires.starts;
  ends = c.requires.ends;
  judged = c.in_ok-elements.elements.items;
  are = c.in_ok-elements.ensures.elements;
  told =
      subst (λ (js : List JudgedElement). IsToldOf c.args.rule.now.is_quiet js c.in_ok-told.told.words.items c.in_ok-told.told.exit) c.deref.ensures.value
      c.in_ok-told.ensures;
}

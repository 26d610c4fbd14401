use Rattle.std.proofs.Common.{◌++◌, ap, ◌∙◌}
use Rattle.test_examples.specs.Wholes.{span_if}
use Rattle.test_examples.proofs.Spans.{spans_more}
use Rattle.test_examples.proofs.sequences.spans_of.Goals as goal

pub loop-element-preserved : goal.loop-element-preserved
loop-element-preserved c =
    let element = c.element-item.result in
    c.in_ok-push_whole.ensures
    ∙ ap (λ xs. xs ++ span_if element.answer element.span) c.loop-element.invariant
    ∙ spans_more c.args.elements.now c.loop-element.element-index element element c.loop-element-test.true c.element-item.is

use Rattle.std.proofs.Common.{ap, subst, ◌∙◌}
use Rattle.jx_answer.specs.Sequence.{AreElements}
use Rattle.test_examples.specs.Wholes.{accepted_spans}
use Rattle.test_examples.proofs.sequences.whole_elements.Goals as goal

pub returns : goal.returns
returns g c =
    let elements = c.in_ok-elements.elements.items in
    let are = subst (λ d. AreElements c.args.input.now d elements) c.default-depth.ensures c.in_ok-elements.ensures.elements in
    (elements, are, c.in_ok-spans.ensures ∙ ap accepted_spans c.deref.ensures.value)

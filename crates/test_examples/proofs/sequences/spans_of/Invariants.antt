use Rattle.std.proofs.Common.{◌≡◌, take}
use Rattle.test_examples.specs.Wholes.{accepted_spans}
use Rattle.test_examples.proofs.sequences.spans_of.Given as goal

abbrev pub invariant-loop-element : goal.invariant-loop-element
invariant-loop-element l = l.spans.items ≡ accepted_spans (take l.element-index l.elements)

use Rattle.std.proofs.Common.{refl}
use Rattle.jx_run.specs.MarkAlone.{elements_by}
use Rattle.jx_answer.proofs.bytes.sequences.index_sequence_with.Goals as goal

pub returns : goal.returns
returns g c = record {
  elements = c.elements_by_names.ensures c.args.settings.now c.args.text.now (elements_by c.args.settings.now.mark c.args.text.now) refl c.in_ok-elements.ensures.elements;
}

use Rattle.std.proofs.Common.{ap, refl, ◌∙◌}
use Rattle.jx_run.specs.declared.texts.settings.Settings.{Settings}
use Rattle.jx_ndjson.proofs.Sequences.{begun_elements}
use Rattle.jx_ndjson.proofs.element_reader.ElementReader.new.Goals as goal

pub returns-clause-told : goal.returns-clause-told
returns-clause-told c =
    let same = c.new-2.ensures.settings ∙ c.into.ensures in
    begun_elements c.args.settings.now _ refl
    (c.elements_of_two_parts.ensures.begun c.args.settings.now.depth c.new-2.result (ap (λ (s : Settings). s.depth) same) (ap (λ (s : Settings). s.mark) same) c.new-2.ensures.start c.new-2.ensures.reads)
    c.new.ensures.items

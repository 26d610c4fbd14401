use Rattle.jx_parallel_report.proofs.Elements.{told_one}
use Rattle.jx_parallel_report.proofs.elements_reader.ElementsReader.tell.Goals as goal

pub returns-clause-told : goal.returns-clause-told
returns-clause-told c = λ judged h.
    let old = c.args.self.now.told in
    told_one c.args.rule.now.is_quiet judged c.args.element old.words.items _ old.exit _ h c.in_ok-add_told.ensures c.exit_past-exit.ensures

use Rattle.std.proofs.Common.{◌≡◌, rules}
use Rattle.jx_words.specs.Verdicts.{shown_output}
use Rattle.jx_files.proofs.reports.answer_at.Goals as goal

pub returns-in-Ok-clause-ok : goal.returns-in-Ok-clause-ok
returns-in-Ok-clause-ok g c =
    let said = c.in-Ok.ensures.ok in
    let shown : c.report_at.new.writer.inner.items ≡ shown_output c.args.command.now.quiet said.output = search (rules, said.wrote) in
    record { text = said.text; output = said.output; whole = said.whole; answer_is = said.answer; shown = shown }

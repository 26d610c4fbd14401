use Rattle.std.proofs.Common.{◌≡◌, ◌∙◌, List, ℕ, subst}
use Rattle.std.specs.Prelude.{flat_map, []}
use Rattle.std.specs.Io.KnownBytes.{Appends}
use Rattle.jx_ends.specs.declared.exit.Exit.{Exit}
use Rattle.jx_ends.specs.Ends.{AppendsBeginning}
use Rattle.jx_ndjson_report.specs.Elements.{element_line}
use Rattle.jx_parallel_report.specs.ReportsAt.{ReportsAt}
use Rattle.jx_parallel_report.proofs.Outputs.{carried, output_of_elements, unread}
use Rattle.jx_parallel_report.proofs.elements_report.report_elements.Goals as goal

pub returns-in-Ok-clause-ok : goal.returns-in-Ok-clause-ok
returns-in-Ok-clause-ok g c =
    let contents = g.W.Sink.contents in
    let command = c.args.command.now in
    let told = c.in-Ok.told in
    let on = c.in-Ok.ensures.ok in
    let all = on.2 in
    carried (λ (exit : Exit). (exit ≡ told.exit) × Appends (contents c.args.writer.now) (contents c.show_told.new.writer) told.words.items)
    (ReportsAt command (g.F.SharedAt.content c.args.file.now) (contents c.args.writer.now) (contents c.show_told.new.writer)) c.show_told.result c.show_told.ensures.ok
    (λ exit said. record {
      text = on.0;
      output = flat_map (element_line []) all.judged;
      whole = on.1;
      answer = output_of_elements command.task command.settings on.0 all.judged exit c.requires.task c.requires.names c.requires.mark all.are (said.0 ∙ all.told.exit_is);
      wrote = subst (λ (xs : List ℕ). Appends (contents c.args.writer.now) (contents c.show_told.new.writer) xs) all.told.words_are said.1;
    })

pub returns-in-Ok-clause-beginning : goal.returns-in-Ok-clause-beginning
returns-in-Ok-clause-beginning g c = λ is.
    let contents = g.W.Sink.contents in
    let command = c.args.command.now in
    let on = c.in-Ok.ensures.ok in
    let all = on.2 in
    record {
      text = on.0;
      output = flat_map (element_line []) all.judged;
      exit = c.in-Ok.told.exit;
      whole = on.1;
      answer = output_of_elements command.task command.settings on.0 all.judged c.in-Ok.told.exit c.requires.task c.requires.names c.requires.mark all.are all.told.exit_is;
      wrote = subst (λ (xs : List ℕ). AppendsBeginning (contents c.args.writer.now) (contents c.show_told.new.writer) xs) all.told.words_are (c.show_told.ensures.beginning is);
    }

pub returns-in-Ok-clause-read : goal.returns-in-Ok-clause-read
returns-in-Ok-clause-read g c = unread (g.F.SharedAt.may_fail c.args.file.now) c.show_told.result c.show_told.ensures.unread

use Rattle.std.proofs.Common.{List, ℕ}
use Rattle.std.specs.Io.KnownBytes.{Appends}
use Rattle.jx_ends.specs.declared.exit.Exit.{Exit}
use Rattle.jx_words.specs.Verdicts.{ByVerdict, SaysAccepted, shown_output}
use Rattle.jx_parallel_report.specs.ReportsAt.{ReportsAt}
use Rattle.jx_parallel_report.proofs.Outputs.{carried, output_of_verdict, unread}
use Rattle.jx_parallel_report.proofs.reporting.report_verdict.Goals as goal

pub returns-in-Ok-clause-ok : goal.returns-in-Ok-clause-ok
returns-in-Ok-clause-ok g c =
    let command = c.args.command.now in
    let verdict = c.in-Ok.verdict in
    let on = c.in-Ok.ensures.ok in
    let judged = (c.verdict_without_a_rule_on_names.ensures.verdict command.settings on.text verdict c.requires.names).1 on.judged in
    carried (λ (exit : Exit). (output : List ℕ) × (ByVerdict SaysAccepted verdict output exit × Appends (g.W.Sink.contents c.args.writer.now) (g.W.Sink.contents c.show.new.writer) (shown_output command.quiet output)))
    (ReportsAt command (g.F.SharedAt.content c.args.file.now) (g.W.Sink.contents c.args.writer.now) (g.W.Sink.contents c.show.new.writer)) c.show.result c.show.ensures.ok
    (λ exit said. record {
      text = on.text;
      output = said.0;
      whole = on.whole;
      answer = output_of_verdict command.task command.settings on.text verdict said.0 exit c.requires.task judged said.1.0;
      wrote = said.1.1;
    })

pub returns-in-Ok-clause-beginning : goal.returns-in-Ok-clause-beginning
returns-in-Ok-clause-beginning g c = λ is.
    let command = c.args.command.now in
    let verdict = c.in-Ok.verdict in
    let on = c.in-Ok.ensures.ok in
    let judged = (c.verdict_without_a_rule_on_names.ensures.verdict command.settings on.text verdict c.requires.names).1 on.judged in
    let said = c.show.ensures.beginning is in
    record {
      text = on.text;
      output = said.1.0;
      exit = said.0;
      whole = on.whole;
      answer = output_of_verdict command.task command.settings on.text verdict said.1.0 said.0 c.requires.task judged said.1.1.0;
      wrote = said.1.1.1;
    }

pub returns-in-Ok-clause-read : goal.returns-in-Ok-clause-read
returns-in-Ok-clause-read g c = unread (g.F.SharedAt.may_fail c.args.file.now) c.show.result c.show.ensures.unread

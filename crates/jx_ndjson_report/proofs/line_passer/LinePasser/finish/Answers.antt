use Rattle.std.proofs.Common.{◌+◌, ◌++◌, sym, subst}
use Rattle.std.specs.Prelude.{Option}
use Rattle.jx_ndjson.specs.declared.judged_line.JudgedLine.{JudgedLine}
use Rattle.jx_ndjson_report.specs.declared.task.LinesTask.{LinesTask}
use Rattle.jx_ndjson_report.specs.Passed.{PassOutput}
use Rattle.jx_ndjson_report.specs.inside.LinePasser.{HasPassed, LinePasserValue}
use Rattle.jx_ndjson_report.specs.inside.LineTeller.{LineTellerValue}
use Rattle.jx_ndjson_report.proofs.Passes.{pass_ends, spans_of}
use Rattle.jx_ndjson_report.proofs.line_passer.LinePasser.finish.Goals as goal

pub returns : goal.returns
returns c = λ bytes given said h.
    let i = c.self.inside in
    let task : LinesTask = c.args.task.now in
    let old : LinePasserValue = record { teller = i.teller; kept = i.kept.items; ready = i.ready.items } in
    let o : HasPassed task bytes given said old = subst (λ (p : LinePasserValue). HasPassed task bytes given said p) (sym c.self.view_is) h in
    let line : Option JudgedLine = c.last_line-last.result in
    subst (λ (t : LineTellerValue). PassOutput task bytes (given ++ c.pass.new.self.ready) (said ++ t.ready) c.in_ok-exit.exit) (sym c.pass.ensures.teller)
    (pass_ends c.unique_answer.ensures.one task bytes given said c.finish.new.self.ready c.pass.new.self.ready line old c.in_ok-exit.exit o c.last_line-last.ensures.told
    (spans_of line old.teller.lines.reader.start (old.teller.lines.reader.start + old.teller.lines.reader.count) c.last_line-last.ensures.span)
    c.in_ok-pass.ensures.ready (c.in_ok-exit.ensures.ended tt tt bytes said o.taken))

use Rattle.std.proofs.Common.{◌≡◌, ◌+◌, ◌-◌, ◌≤◌, ◌++◌, ◌∙◌, ℕ, List, length, map, ap, sym, subst, arith}
use Rattle.jx_ndjson.specs.declared.judged_line.JudgedLine.{JudgedLine}
use Rattle.jx_ndjson.specs.Reading.{HasTold}
use Rattle.jx_ndjson.specs.WholeLines.{WholeLinesValue, moved_line}
use Rattle.jx_ndjson_report.specs.declared.task.LinesTask.{LinesTask}
use Rattle.jx_ndjson_report.specs.Output.{bad_lines, bad_of}
use Rattle.jx_ndjson_report.specs.inside.LineTeller.{HasTakenAs, LineTellerValue}
use Rattle.jx_ndjson_report.proofs.Takes.{takes_whole_as}
use Rattle.jx_ndjson_report.proofs.line_teller.LineTeller.take_whole.Goals as goal

pub returns-clause-taken : goal.returns-clause-taken
returns-clause-taken c = λ bytes given more answers h k.
    let i = c.self.inside in
    let task : LinesTask = c.args.task.now in
    let whole : WholeLinesValue = c.args.whole.now in
    let old : LineTellerValue = c.args.self.now in
    let most = c.count.ensures.bad in
    let count = c.count.ensures.count in
    let few : length whole.bad ≤ whole.count = omega (arith, most, count) in
    let none : i.lines.reader.count ≡ 0 = subst (λ (v : LineTellerValue). v.lines.reader.count ≡ 0) (sym c.self.view_is) c.requires.between in
    let end = c.end-bytes.ensures in
    let at : ℕ = i.lines.reader.start in
    let lines : ℕ = i.lines.ended in
    let there : c.end-bytes.result ≡ at = omega (arith, end, none) in
    let number : c.ended-lines.result ≡ lines = c.ended-lines.ensures.count in
    let same : c.bad-bad.result.now ≡ whole.bad = c.bad-bad.ensures in
    let less : length c.bad-bad.result.now ≡ length whole.bad = ap length same in
    let good : i.good + (c.count.result - length c.bad-bad.result.now) ≡ i.good + (whole.count - length whole.bad) = omega (arith, count, less) in
    let moved : map (moved_line c.ended-lines.result c.end-bytes.result) c.bad-bad.result.now ≡ map (moved_line lines at) whole.bad =
    ap (λ (js : List JudgedLine). map (moved_line c.ended-lines.result c.end-bytes.result) js) same
    ∙ ap (λ (n : ℕ). map (moved_line n c.end-bytes.result) whole.bad) number
    ∙ ap (λ (m : ℕ). map (moved_line lines m) whole.bad) there in
    let new : LineTellerValue = record { lines = c.pass.new.self; good = i.good + (c.count.result - length c.bad-bad.result.now); bad = i.bad + c.in_ok-told.told; ready = c.add_all_bad.new.ready.items } in
    subst (λ (v : LineTellerValue). HasTakenAs task (bytes ++ more) given (h.answers ++ map (moved_line v.lines.ended v.lines.reader.start) answers) new) c.self.view_is
    (takes_whole_as task bytes more given answers whole old new h k few lines at
    (good ∙ ap (λ (v : LineTellerValue). v.good + (whole.count - length whole.bad)) c.self.view_is)
    (ap (λ (n : ℕ). i.bad + n) (c.in_ok-told.ensures.count ∙ ap (λ (js : List JudgedLine). length (bad_of task.blanks js)) moved)
    ∙ ap (λ (v : LineTellerValue). v.bad + length (bad_of task.blanks (map (moved_line lines at) whole.bad))) c.self.view_is)
    (c.in_ok-told.ensures.ready
    ∙ ap (λ (js : List JudgedLine). i.ready.items ++ bad_lines task js) moved
    ∙ ap (λ (v : LineTellerValue). v.ready ++ bad_lines task (map (moved_line lines at) whole.bad)) c.self.view_is)
    (λ told o. c.pass.ensures.told task.settings bytes more told answers (subst (λ (v : LineTellerValue). HasTold task.settings bytes told v.lines) (sym c.self.view_is) o) k))

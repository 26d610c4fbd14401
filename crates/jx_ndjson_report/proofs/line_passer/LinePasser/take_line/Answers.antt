use Rattle.std.proofs.Common.{◌≡◌, ◌+◌, ◌<◌, ◌∙◌, ℕ, List, ◌++◌, length, take, sym, ap, subst}
use Rattle.std.specs.Prelude.{IfSome, Option}
use Rattle.std.proofs.lemmas.List.{length-take-le}
use Rattle.jx_ndjson.specs.declared.judged_line.JudgedLine.{JudgedLine}
use Rattle.jx_ndjson.specs.Reading.{listed}
use Rattle.jx_ndjson_report.specs.declared.task.LinesTask.{LinesTask}
use Rattle.jx_ndjson_report.specs.inside.LinePasser.{HasPassed, LinePasserValue, kept_of}
use Rattle.jx_ndjson_report.specs.inside.LineTeller.{HasTakenAs, LineTellerValue}
use Rattle.jx_ndjson_report.proofs.Passes.{passes_step}
use Rattle.jx_ndjson_report.proofs.line_passer.LinePasser.take_line.Goals as goal

pub returns-clause-taken : goal.returns-clause-taken
returns-clause-taken c = λ bytes given said h.
    let i = c.self.inside in
    let task : LinesTask = c.args.task.now in
    let slice : List ℕ = c.args.slice.now in
    let n : ℕ = c.in_ok-step.step.taken in
    let line : Option JudgedLine = c.in_ok-step.step.line in
    let chunk : List ℕ = take n slice in
    let old : LinePasserValue = record { teller = i.teller; kept = i.kept.items; ready = i.ready.items } in
    let new : LinePasserValue = c.keep.new.self in
    let o : HasPassed task bytes given said old = subst (λ (p : LinePasserValue). HasPassed task bytes given said p) (sym c.self.view_is) h in
    let same : new.teller ≡ c.read_line.new.self = c.keep.ensures.teller ∙ c.pass.ensures.teller in
    let long : length chunk ≡ n = length-take-le n slice c.in_ok-step.ensures.within in
    passes_step task bytes chunk given said line old new o
    (subst (λ (t : LineTellerValue). HasTakenAs task (bytes ++ chunk) said (o.taken.answers ++ listed line) t) (sym same) (c.in_ok-step.ensures.taken bytes said o.taken))
    (c.keep.ensures.ready ∙ c.in_ok-pass.ensures.ready)
    (c.in_ok-keep.ensures.kept
    ∙ ap (λ (k : List ℕ). kept_of c.pass.new.self.teller.lines.reader.count (k ++ chunk)) c.pass.ensures.kept
    ∙ ap (λ (t : LineTellerValue). kept_of t.lines.reader.count (old.kept ++ chunk)) (sym c.keep.ensures.teller))
    (ap (λ (t : LineTellerValue). t.lines.reader.start + t.lines.reader.count) same
    ∙ c.in_ok-step.ensures.count
    ∙ ap (λ (k : ℕ). old.teller.lines.reader.start + old.teller.lines.reader.count + k) (sym long))
    (subst (λ (t : LineTellerValue). 0 < t.lines.reader.count → t.lines.reader.start ≡ old.teller.lines.reader.start) (sym same) c.in_ok-step.ensures.goes_on_there)
    (subst (λ (k : ℕ). IfSome line (λ j. (j.span.start ≡ old.teller.lines.reader.start) × (j.span.end + 1 ≡ old.teller.lines.reader.start + old.teller.lines.reader.count + k))) (sym long) c.in_ok-step.ensures.spans)

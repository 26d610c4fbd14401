use Rattle.std.proofs.Common.{◌+◌, ◌∙◌, ℕ, List, ◌++◌, ◌∷◌, [], cond, take, sym, ap, subst}
use Rattle.std.specs.Prelude.{Option}
use Rattle.jx_ndjson.specs.declared.judged_line.JudgedLine.{JudgedLine}
use Rattle.jx_ndjson.specs.Reading.{HasTold, LineReaderValue, listed}
use Rattle.jx_ndjson_report.specs.declared.task.LinesTask.{LinesTask}
use Rattle.jx_ndjson_report.specs.Output.{is_bad, is_good}
use Rattle.jx_ndjson_report.specs.inside.LineSteps.{bad_line}
use Rattle.jx_ndjson_report.specs.inside.LineTeller.{HasTakenAs, LineTellerValue}
use Rattle.jx_ndjson_report.proofs.Takes.{takes_line_as, takes_none_as}
use Rattle.jx_ndjson_report.proofs.line_teller.LineTeller.read_line.Goals as goal

pub returns-in-None-clause-taken : goal.returns-in-None-clause-taken
returns-in-None-clause-taken c = λ bytes given h.
    let task : LinesTask = c.args.task.now in
    let old : LineTellerValue = c.args.self.now in
    let more : List ℕ = take c.in_ok-step.step.taken c.args.slice.now in
    let i = c.self.inside in
    let new : LineTellerValue = record { lines = c.feed.new.self; good = i.good; bad = i.bad; ready = i.ready.items } in
    subst (λ (l : Option JudgedLine). HasTakenAs task (bytes ++ more) given (h.answers ++ listed l) new) (sym c.in-None.is)
    (takes_none_as task bytes more given old new h
    (ap (λ (v : LineTellerValue). v.good) c.self.view_is) (ap (λ (v : LineTellerValue). v.bad) c.self.view_is) (ap (λ (v : LineTellerValue). v.ready) c.self.view_is)
    (λ settings input told o. subst (λ (l : Option JudgedLine). HasTold settings (input ++ more) (told ++ listed l) c.feed.new.self) c.in-None.is
    (c.in_ok-step.ensures.told settings input told (subst (λ (v : LineTellerValue). HasTold settings input told v.lines) (sym c.self.view_is) o))))

pub returns-in_ok-tell-in-Some-clause-taken : goal.returns-in_ok-tell-in-Some-clause-taken
returns-in_ok-tell-in-Some-clause-taken c = λ bytes given h.
    let task : LinesTask = c.args.task.now in
    let old : LineTellerValue = c.args.self.now in
    let more : List ℕ = take c.in_ok-step.step.taken c.args.slice.now in
    let j : JudgedLine = c.in-Some.judged in
    subst (λ (l : Option JudgedLine). HasTakenAs task (bytes ++ more) given (h.answers ++ listed l) c.tell.new.self) (sym c.in-Some.is)
    (takes_line_as task bytes more given j old c.tell.new.self h
    (c.in_ok-tell-in-Some.ensures.good ∙ ap (λ (v : LineTellerValue). v.good + cond (is_good j.verdict) 1 0) c.self.view_is)
    (c.in_ok-tell-in-Some.ensures.bad ∙ ap (λ (v : LineTellerValue). v.bad + cond (is_bad task.blanks j.verdict) 1 0) c.self.view_is)
    (c.in_ok-tell-in-Some.ensures.ready ∙ ap (λ (v : LineTellerValue). v.ready ++ bad_line task j) c.self.view_is)
    (λ settings input told o.
    subst (λ (v : LineReaderValue). HasTold settings (input ++ more) (told ++ j ∷ []) v) (sym c.in_ok-tell-in-Some.ensures.lines)
    (subst (λ (l : Option JudgedLine). HasTold settings (input ++ more) (told ++ listed l) c.feed.new.self) c.in-Some.is
    (c.in_ok-step.ensures.told settings input told (subst (λ (v : LineTellerValue). HasTold settings input told v.lines) (sym c.self.view_is) o)))))

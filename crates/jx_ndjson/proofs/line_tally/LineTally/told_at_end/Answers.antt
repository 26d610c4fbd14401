use Rattle.std.proofs.Common.{List, [], ◌++◌, sym, subst}
use Rattle.jx_ndjson.specs.declared.judged_line.JudgedLine.{JudgedLine}
use Rattle.jx_ndjson.specs.Reading.{listed}
use Rattle.jx_ndjson.specs.Tally.{HasTaken, IsTallied, TallyValue}
use Rattle.jx_ndjson.proofs.Tallies.{ends_so, ends_with}
use Rattle.jx_ndjson.proofs.line_tally.LineTally.told_at_end.Goals as goal

pub returns-in-None : goal.returns-in-None
returns-in-None c = λ settings bytes given h.
    let i = c.self.inside in
    let r : TallyValue = record { lines = i.lines; counts = i.counts; waiting = i.waiting.items } in
    subst (λ (v : TallyValue). IsTallied settings bytes ((given ++ v.waiting) ++ []) i.counts) c.self.view_is
    (ends_so settings bytes given r (subst (λ (v : TallyValue). HasTaken settings bytes given v) (sym c.self.view_is) h) c.in-None.ensures.told)

pub returns-in-Some : goal.returns-in-Some
returns-in-Some c = λ settings bytes given h.
    let i = c.self.inside in
    let r : TallyValue = record { lines = i.lines; counts = i.counts; waiting = i.waiting.items } in
    let bad : List JudgedLine = listed c.bad_line.result in
    subst (λ (v : TallyValue). IsTallied settings bytes ((given ++ v.waiting) ++ bad) c.counted.result) c.self.view_is
    (ends_with settings bytes given bad c.in-Some.judged r c.counted.result (subst (λ (v : TallyValue). HasTaken settings bytes given v) (sym c.self.view_is) h) c.in-Some.ensures.told
    c.bad_line.ensures c.counted.ensures.value)

use Rattle.std.proofs.Common.{ℕ, List, ◌++◌, ◌∷◌, [], take, refl, sym, subst}
use Rattle.std.specs.Prelude.{Option}
use Rattle.jx_ndjson.specs.declared.judged_line.JudgedLine.{JudgedLine}
use Rattle.jx_ndjson.specs.Reading.{HasTold, LineReaderValue, listed}
use Rattle.jx_ndjson.specs.Tally.{HasTaken, TallyValue}
use Rattle.jx_ndjson.proofs.Tallies.{takes_line, takes_none}
use Rattle.jx_ndjson.proofs.line_tally.LineTally.take_line.Goals as goal

pub returns-in-None-clause-taken : goal.returns-in-None-clause-taken
returns-in-None-clause-taken c = λ settings bytes given h.
    let i = c.self.inside in
    let more : List ℕ = take c.in_ok-step.step.taken c.args.slice.now in
    let r : TallyValue = record { lines = i.lines; counts = i.counts; waiting = i.waiting.items } in
    takes_none settings bytes more given r _ (subst (λ (v : TallyValue). HasTaken settings bytes given v) (sym c.self.view_is) h) refl refl
    (λ s input told o. subst (λ (l : Option JudgedLine). HasTold s (input ++ more) (told ++ listed l) c.feed.new.self) c.in-None.is (c.in_ok-step.ensures.told s input told o))

pub returns-in_ok-tell-in-Some-clause-taken : goal.returns-in_ok-tell-in-Some-clause-taken
returns-in_ok-tell-in-Some-clause-taken c = λ settings bytes given h.
    let i = c.self.inside in
    let more : List ℕ = take c.in_ok-step.step.taken c.args.slice.now in
    let j : JudgedLine = c.in-Some.judged in
    let r : TallyValue = record { lines = i.lines; counts = i.counts; waiting = i.waiting.items } in
    takes_line settings bytes more given j r c.tell.new.self (subst (λ (v : TallyValue). HasTaken settings bytes given v) (sym c.self.view_is) h)
    c.in_ok-tell-in-Some.ensures.counts c.in_ok-tell-in-Some.ensures.waiting
    (λ s input told o.
    subst (λ (v : LineReaderValue). HasTold s (input ++ more) (told ++ j ∷ []) v) (sym c.in_ok-tell-in-Some.ensures.lines)
    (subst (λ (l : Option JudgedLine). HasTold s (input ++ more) (told ++ listed l) c.feed.new.self) c.in-Some.is (c.in_ok-step.ensures.told s input told o)))

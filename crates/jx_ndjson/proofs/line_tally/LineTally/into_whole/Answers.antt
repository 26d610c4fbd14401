use Rattle.std.proofs.Common.{◌∙◌, [], sym, ap, subst}
use Rattle.jx_ndjson.specs.Tally.{HasTaken, TallyValue}
use Rattle.jx_ndjson.specs.WholeLines.{WholeLinesValue}
use Rattle.jx_ndjson.proofs.Whole.{taken_whole}
use Rattle.jx_ndjson.proofs.line_tally.LineTally.into_whole.Goals as goal

pub returns-clause-whole : goal.returns-clause-whole
returns-clause-whole c = λ settings input mark h.
    let i = c.self.inside in
    let t : TallyValue = record { lines = i.lines; counts = i.counts; waiting = i.waiting.items } in
    let between = c.is_between.ensures c.if-not-is_between.false in
    taken_whole settings input t c.new.result mark between.1 (subst (λ (v : TallyValue). HasTaken settings input [] v) (sym c.self.view_is) h)
    (ap (λ (v : WholeLinesValue). v.len) c.new.ensures ∙ c.end.ensures)
    (ap (λ (v : WholeLinesValue). v.count) c.new.ensures ∙ c.ended.ensures.count)
    (ap (λ (v : WholeLinesValue). v.bad) c.new.ensures)

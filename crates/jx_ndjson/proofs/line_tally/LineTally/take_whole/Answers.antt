use Rattle.std.proofs.Common.{◌≡◌, ◌+◌, ◌-◌, ◌++◌, ◌∙◌, ℕ, List, length, map, ap, sym, subst, arith}
use Rattle.jx_ndjson.specs.declared.judged_line.JudgedLine.{JudgedLine}
use Rattle.jx_ndjson.specs.Reading.{HasTold}
use Rattle.jx_ndjson.specs.Tally.{HasTaken, TallyValue, count_of, is_blank_line}
use Rattle.jx_ndjson.specs.WholeLines.{WholeLinesValue, moved_line}
use Rattle.jx_ndjson.proofs.Tallies.{takes_whole, with_counts}
use Rattle.jx_ndjson.proofs.line_tally.LineTally.take_whole.Goals as goal

pub returns-clause-taken : goal.returns-clause-taken
returns-clause-taken c = λ settings bytes more given answers h k.
    let i = c.self.inside in
    let whole : WholeLinesValue = c.args.whole.now in
    let r : TallyValue = record { lines = i.lines; counts = i.counts; waiting = i.waiting.items } in
    let old : HasTaken settings bytes given r = subst (λ (v : TallyValue). HasTaken settings bytes given v) (sym c.self.view_is) h in
    let lines : ℕ = c.ended-ended.result in
    let at : ℕ = c.end.result in
    let none : i.lines.reader.count ≡ 0 = subst (λ (v : TallyValue). v.lines.reader.count ≡ 0) (sym c.self.view_is) c.requires.between in
    let end = c.end.ensures in
    let there : at ≡ i.lines.reader.start = omega (arith, end, none) in
    let number : lines ≡ i.lines.ended = c.ended-ended.ensures.count in
    let bad : List JudgedLine = c.bad-bad.result.now in
    let same : bad ≡ whole.bad = c.bad-bad.ensures in
    let blank : ℕ = c.blanks_among-blank.result in
    let blanks : blank ≡ count_of is_blank_line whole.bad = c.blanks_among-blank.ensures.count ∙ ap (count_of is_blank_line) same in
    takes_whole settings bytes more given answers whole lines at r _ old k
    (ap (λ (n : ℕ). with_counts i.counts (n - length bad) (length bad - blank) blank) c.count.ensures.count
    ∙ ap (λ (js : List JudgedLine). with_counts i.counts (whole.count - length js) (length js - blank) blank) same
    ∙ ap (λ (n : ℕ). with_counts i.counts (whole.count - length whole.bad) (length whole.bad - n) n) blanks)
    (c.in_ok-append_behind.ensures.ok ∙ ap (λ (js : List JudgedLine). i.waiting.items ++ map (moved_line lines at) js) same)
    (λ told o.
    subst (λ (n : ℕ). HasTold settings (bytes ++ more) (told ++ map (moved_line n at) answers) c.pass.new.self) (sym number)
    (subst (λ (m : ℕ). HasTold settings (bytes ++ more) (told ++ map (moved_line i.lines.ended m) answers) c.pass.new.self) (sym there)
    (c.pass.ensures.told settings bytes more told answers o k)))

use Rattle.std.proofs.Common.{◌≡◌, ◌+◌, ◌≤◌, ◌++◌, ◌∙◌, List, map, ap, subst, arith}
use Rattle.jx_ndjson.specs.declared.judged_line.JudgedLine.{JudgedLine}
use Rattle.jx_ndjson.specs.WholeLines.{WholeLinesValue, moved_line}
use Rattle.jx_ndjson.proofs.Whole.{whole_joins}
use Rattle.jx_ndjson.proofs.whole_lines.WholeLines.take_in.Goals as goal

pub returns-clause-joins : goal.returns-clause-joins
returns-clause-joins c = λ limit xs ys before more h k.
    let s = c.self.inside in
    let b = c.behind.inside in
    let v : WholeLinesValue = c.args.self.now in
    let w : WholeLinesValue = c.args.behind.now in
    let len_v = ap (λ (x : WholeLinesValue). x.len) c.self.view_is in
    let len_w = ap (λ (x : WholeLinesValue). x.len) c.behind.view_is in
    let count_v = ap (λ (x : WholeLinesValue). x.count) c.self.view_is in
    let count_w = ap (λ (x : WholeLinesValue). x.count) c.behind.view_is in
    let few : v.count ≤ v.len = subst (λ (x : WholeLinesValue). x.count ≤ x.len) c.self.view_is c.self.invariant.1 in
    let len : s.len + b.len ≡ v.len + w.len = omega (arith, len_v, len_w) in
    let count : s.count + b.count ≡ v.count + w.count = omega (arith, count_v, count_w) in
    whole_joins c.reader_and_grammar.ensures.verdict limit xs ys before more v w _ c.requires few h k len count
    (c.in_ok-append_behind.ensures.ok
    ∙ ap (λ (js : List JudgedLine). s.bad.items ++ map (moved_line s.count s.len) js) c.deref.ensures.value
    ∙ ap (λ (x : WholeLinesValue). x.bad ++ map (moved_line x.count x.len) b.bad.items) c.self.view_is
    ∙ ap (λ (x : WholeLinesValue). v.bad ++ map (moved_line v.count v.len) x.bad) c.behind.view_is)

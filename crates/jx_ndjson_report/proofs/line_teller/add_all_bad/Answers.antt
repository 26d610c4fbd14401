use Rattle.std.proofs.Common.{rules, ◌≡◌, ◌+◌, ◌++◌, ◌∷◌, ◌∙◌, ℕ, List, [], Bool, cond, length, map, take, append_assoc, append-nil, ap, sym, arith}
use Rattle.std.proofs.lemmas.List.{map_more}
use Rattle.jx_ndjson.specs.declared.judged_line.JudgedLine.{JudgedLine}
use Rattle.jx_ndjson.specs.WholeLines.{moved_line}
use Rattle.jx_ndjson_report.specs.declared.task.LinesTask.{LinesTask}
use Rattle.jx_ndjson_report.specs.Output.{bad_lines, bad_of, is_bad}
use Rattle.jx_ndjson_report.specs.inside.LineSteps.{bad_line}
use Rattle.jx_ndjson_report.proofs.Told.{nothing_told, one_more_bad, one_more_line}
use Rattle.jx_ndjson_report.proofs.line_teller.add_all_bad.Goals as goal

pub loop-at-init : goal.loop-at-init
loop-at-init c = record {
  count = search rules;
  most = search rules;
  ready = sym (ap (λ (xs : List ℕ). c.args.ready.now.items ++ xs) (nothing_told c.args.task.now) ∙ append-nil c.args.ready.now.items);
}

pub loop-at-preserved : goal.loop-at-preserved
loop-at-preserved c =
    let l = c.loop-at in
    let i = l.invariant in
    let task : LinesTask = c.args.task.now in
    let js : List JudgedLine = c.args.judged.now in
    let told : List JudgedLine = map (moved_line c.args.lines c.args.bytes) (take l.at js) in
    let j : JudgedLine = c.behind-line.result in
    let longer : map (moved_line c.args.lines c.args.bytes) (take (l.at + 1) js) ≡ told ++ j ∷ [] =
    map_more (moved_line c.args.lines c.args.bytes) js l.at _ (omega arith) ∙ ap (λ (y : JudgedLine). told ++ y ∷ []) (sym c.behind-line.ensures) in
    let more : c.counted-count.result ≡ l.count + cond (is_bad task.blanks j.verdict) 1 0 = c.counted-count.ensures ∙ ap (λ (b : Bool). l.count + cond b 1 0) c.is_bad.ensures in
    let most = i.most in
    record {
      count = more ∙ ap (λ (n : ℕ). n + cond (is_bad task.blanks j.verdict) 1 0) i.count ∙ sym (one_more_bad task told j) ∙ ap (λ (ls : List JudgedLine). length (bad_of task.blanks ls)) (sym longer);
      most = search rules;
      ready = c.in_ok-add_bad.ensures ∙ ap (λ (xs : List ℕ). xs ++ bad_line task j) i.ready ∙ append_assoc c.args.ready.now.items (bad_lines task told) (bad_line task j)
          ∙ ap (λ (xs : List ℕ). c.args.ready.now.items ++ xs) (sym (one_more_line task told j) ∙ ap (bad_lines task) (sym longer));
    }

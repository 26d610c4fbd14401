use Rattle.std.proofs.Common.{◌≡◌, List, ℕ, ◌++◌, ◌∙◌, ap, sym, subst, append-nil}
use Rattle.std.specs.Prelude.{Option}
use Rattle.std.proofs.lemmas.Result.{on_ok_weaker}
use Rattle.jx_ndjson.specs.declared.judged_line.JudgedLine.{JudgedLine}
use Rattle.jx_ndjson.specs.Reading.{listed}
use Rattle.jx_ndjson_report.specs.Output.{bad_lines}
use Rattle.jx_ndjson_report.proofs.Told.{nothing_told}
use Rattle.jx_parallel_report.proofs.Lines.{one_told}
use Rattle.jx_parallel_report.proofs.lines_words.add_last.Goals as goal

pub returns-in-None : goal.returns-in-None
returns-in-None c =
    let words : List ℕ = c.args.words.now.items in
    subst (λ (o : Option JudgedLine). words ≡ words ++ bad_lines c.args.task.now (listed o)) (sym c.in-None.is)
    (sym (ap (λ (l : List ℕ). words ++ l) (nothing_told c.args.task.now) ∙ append-nil words))

pub returns-in-Some : goal.returns-in-Some
returns-in-Some c =
    let words : List ℕ = c.args.words.now.items in
    on_ok_weaker c.add_told.result
    (λ e.
    e
    ∙ ap (λ (l : List ℕ). words ++ l) (one_told c.args.task.now c.in-Some.judged)
    ∙ ap (λ (o : Option JudgedLine). words ++ bad_lines c.args.task.now (listed o)) (sym c.in-Some.is))
    c.add_told.ensures

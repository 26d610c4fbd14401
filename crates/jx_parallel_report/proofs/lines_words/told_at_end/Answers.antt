use Rattle.std.proofs.Common.{List, ℕ, ◌++◌, ◌∙◌, ap}
use Rattle.jx_ndjson.specs.Reading.{listed}
use Rattle.jx_words.specs.Verdicts.{shown_output}
use Rattle.jx_ndjson_report.specs.Output.{bad_lines, total_words}
use Rattle.jx_parallel_report.proofs.Lines.{tallied_output}
use Rattle.jx_parallel_report.proofs.lines_words.told_at_end.Goals as goal

pub returns : goal.returns
returns c = λ input given h.
    let task = c.args.task.now in
    let end = c.args.end.now in
    let bad : ℕ = c.in-Some.bad in
    let total : List ℕ = shown_output task.is_quiet (total_words task.form task.front.items end.counts.accepted bad) in
    tallied_output task input c.add_total.new.words.items given (listed end.bad) end.counts bad c.exit_by-exit.result c.in-Some.ensures
    (c.in_ok-add_total.ensures ∙ ap (λ (l : List ℕ). l ++ total) (c.in_ok-add_last.ensures ∙ ap (λ (l : List ℕ). l ++ bad_lines task (listed end.bad)) c.new-words.ensures.items))
    c.exit_by-exit.ensures h

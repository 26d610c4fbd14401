use Rattle.std.proofs.Common.{◌≡◌, ◌∙◌, get_or, sym}
use Rattle.std.proofs.lemmas.Option.{get_or_from_slice_get}
use Rattle.jx_parallel_report.proofs.Lines.{lines_step, lines_done}
use Rattle.jx_parallel_report.proofs.lines_words.add_all_told.Goals as goal

pub loop-number-preserved : goal.loop-number-preserved
loop-number-preserved c =
    let i = c.loop-number.number in
    let lines = c.args.judged.now in
    let line = c.line_at-line.result in
    let is : line ≡ get_or lines i line = sym (get_or_from_slice_get lines i line line c.line_at-line.ensures) in
    lines_step c.args.task.now i lines line line c.loop-number.words.items c.add_told.new.words.items c.loop-number-test.true is c.in_ok-add_told.ensures ∙ c.loop-number.invariant

pub returns : goal.returns
returns c = sym (lines_done c.args.task.now c.loop-number.number c.args.judged.now c.loop-number.words.items c.loop-number-test.false) ∙ c.loop-number.invariant

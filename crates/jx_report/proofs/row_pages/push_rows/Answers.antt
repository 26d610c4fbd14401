use Rattle.std.proofs.Common.{◌≡◌, ◌≤◌, List, arith, get_or, length, sym, take, ◌∙◌}
use Rattle.std.proofs.lemmas.List.{get_or-take, length-take-le}
use Rattle.jx_index.specs.declared.row.Row.{Row}
use Rattle.jx_report.proofs.RowSteps.{rows_step, rows_done}
use Rattle.jx_report.proofs.row_pages.push_rows.Goals as goal

pub loop-number-preserved : goal.loop-number-preserved
loop-number-preserved c =
    let l = c.loop-number in
    let rows : List Row = c.args.rows.now in
    let table : List Row = take c.args.next rows in
    let item = c.index-rows-number.result in
    let is : item ≡ get_or table l.number item = c.index-rows-number.is ∙ sym (get_or-take c.args.next rows l.number item c.loop-number-test.true) in
    let long : length table ≡ c.args.next = length-take-le c.args.next rows c.requires.within in
    record {
      lines = rows_step l.number table item item l.lines.items c.push_row.new.out.items (omega arith) is c.push_row.ensures.words ∙ l.invariant.lines;
      room = omega arith;
      kept = omega arith;
    }

pub returns-clause-lines : goal.returns-clause-lines
returns-clause-lines c =
    let l = c.loop-number in
    let table : List Row = take c.args.next c.args.rows.now in
    let done : length table ≤ l.number = omega (arith, length-take-le c.args.next c.args.rows.now c.requires.within) in
    sym (rows_done l.number table l.lines.items done) ∙ l.invariant.lines

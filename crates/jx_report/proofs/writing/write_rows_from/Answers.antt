use Rattle.std.proofs.Common.{◌≡◌, ◌+◌, ◌++◌, arith, drop, get_or, rules}
use Rattle.jx_ends.specs.Ends.{AppendsBeginning}
use Rattle.jx_report.specs.RowWords.{row_lines, row_words}
use Rattle.jx_words.specs.Words.{line}
use Rattle.jx_words.proofs.PutSteps.{one_line_more, fails_between_lines, after_lines}
use Rattle.jx_report.proofs.RowSteps.{rows_step, rows_done}
use Rattle.jx_report.proofs.writing.write_rows_from.Goals as goal

pub returns-in_err-make_room-clause-err : goal.returns-in_err-make_room-clause-err
returns-in_err-make_room-clause-err g c =
    let contents = g.W.Sink.contents in
    let l = c.loop-number in
    let beginning : AppendsBeginning (contents c.args.writer.now) (contents c.make_room.new.writer) (c.args.out.now.items ++ row_lines c.args.first (drop c.args.first c.args.rows.now)) =
    fails_between_lines (contents c.args.writer.now) (contents l.writer) l.out.items (row_lines l.number (drop l.number c.args.rows.now)) (c.args.out.now.items ++ row_lines c.args.first (drop c.args.first c.args.rows.now)) l.invariant.put
    (contents c.make_room.new.writer) c.in_err-make_room.ensures.err in
    search (rules, beginning)

pub loop-number-preserved : goal.loop-number-preserved
loop-number-preserved g c =
    let contents = g.W.Sink.contents in
    let l = c.loop-number in
    let item = c.index-rows-number.result in
    let is : item ≡ get_or c.args.rows.now l.number item = c.index-rows-number.is in
    record {
      put =
          one_line_more (contents c.args.writer.now) (contents l.writer) l.out.items (row_lines l.number (drop l.number c.args.rows.now)) (c.args.out.now.items ++ row_lines c.args.first (drop c.args.first c.args.rows.now)) l.invariant.put
          (contents c.make_room.new.writer) c.make_room.new.out.items c.push_row.new.out.items (line (row_words l.number item)) (row_lines (l.number + 1) (drop (l.number + 1) c.args.rows.now)) c.in_ok-make_room.ensures.ok c.push_row.ensures.words
          (λ out longer e. rows_step l.number c.args.rows.now item item out longer c.loop-number-test.true is e);
      going = c.in_ok-make_room.ensures.failed;
      large = omega (arith, c.in_ok-make_room.ensures.room, c.push_row.ensures.room.kept);
    }

pub returns-clause-ok : goal.returns-clause-ok
returns-clause-ok g c =
    let contents = g.W.Sink.contents in
    let l = c.loop-number in
    after_lines (contents c.args.writer.now) (contents l.writer) l.out.items (row_lines l.number (drop l.number c.args.rows.now)) (c.args.out.now.items ++ row_lines c.args.first (drop c.args.first c.args.rows.now)) l.invariant.put
    (rows_done l.number c.args.rows.now l.invariant.put.so_far c.loop-number-test.false)

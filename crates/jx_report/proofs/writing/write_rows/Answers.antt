use Rattle.std.proofs.Common.{List, ℕ, ◌++◌}
use Rattle.std.proofs.lemmas.Result.{on_err_weaker, on_ok_weaker}
use Rattle.jx_report.specs.RowWords.{row_lines}
use Rattle.jx_report.specs.inside.Pages.{lines_from}
use Rattle.jx_report.proofs.PageSteps.{put_then_rest}
use Rattle.jx_words.proofs.PutSteps.{put_in_part, put_on}
use Rattle.jx_words.specs.inside.Room.{IsPut}
use Rattle.jx_report.proofs.writing.write_rows.Goals as goal

pub returns-clause-ok : goal.returns-clause-ok
returns-clause-ok g c =
    let contents = g.W.Sink.contents in
    let old = contents c.args.writer.now in
    let mid = contents c.write_by_workers.new.writer in
    let new = contents c.write_rows_from.new.writer in
    let rows = c.args.rows.now in
    let waiting : List ℕ = c.write_by_workers.new.out.items ++ lines_from rows c.in_ok-next.next in
    let whole : List ℕ = c.args.out.now.items ++ row_lines 0 rows in
    let put : IsPut old mid waiting whole = put_then_rest rows old mid c.args.out.now.items c.write_by_workers.new.out.items c.in_ok-next.next c.in_ok-next.ensures.within c.in_ok-next.ensures.ok in
    on_ok_weaker c.write_rows_from.result (put_on old mid waiting whole put new c.write_rows_from.new.out.items) c.write_rows_from.ensures.ok

pub returns-clause-err : goal.returns-clause-err
returns-clause-err g c =
    let contents = g.W.Sink.contents in
    let old = contents c.args.writer.now in
    let mid = contents c.write_by_workers.new.writer in
    let new = contents c.write_rows_from.new.writer in
    let rows = c.args.rows.now in
    let waiting : List ℕ = c.write_by_workers.new.out.items ++ lines_from rows c.in_ok-next.next in
    let whole : List ℕ = c.args.out.now.items ++ row_lines 0 rows in
    let put : IsPut old mid waiting whole = put_then_rest rows old mid c.args.out.now.items c.write_by_workers.new.out.items c.in_ok-next.next c.in_ok-next.ensures.within c.in_ok-next.ensures.ok in
    on_err_weaker c.write_rows_from.result (put_in_part old mid waiting whole put new) c.write_rows_from.ensures.err

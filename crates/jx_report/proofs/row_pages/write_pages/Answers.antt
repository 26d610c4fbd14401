use Rattle.std.proofs.Common.{rules}
use Rattle.jx_ends.specs.Ends.{AppendsBeginning}
use Rattle.jx_report.specs.inside.Pages.{lines_from}
use Rattle.jx_report.proofs.PageSteps.{fails_later, nothing_written, written_on}
use Rattle.jx_report.proofs.row_pages.write_pages.Goals as goal

pub loop-page-init : goal.loop-page-init
loop-page-init g c = record {
  wrote = nothing_written c.args.rows.now (g.W.Sink.contents c.args.writer.now) c.args.from c.requires.within;
  going = c.requires.unfailed;
}

pub returns-in_err-next-clause-err : goal.returns-in_err-next-clause-err
returns-in_err-next-clause-err g c =
    let contents = g.W.Sink.contents in
    let l = c.loop-page in
    let beginning : AppendsBeginning (contents c.args.writer.now) (contents c.write_page.new.writer) (lines_from c.args.rows.now c.args.from) =
    fails_later c.args.rows.now (contents c.args.writer.now) (contents l.writer) (contents c.write_page.new.writer) c.args.from l.next l.invariant.wrote c.in_err-next.ensures.err in
    search (rules, beginning)

pub loop-page-preserved : goal.loop-page-preserved
loop-page-preserved g c =
    let contents = g.W.Sink.contents in
    let l = c.loop-page in
    record {
      wrote =
          written_on c.args.rows.now (contents c.args.writer.now) (contents l.writer) (contents c.write_page.new.writer) c.args.from l.next l.invariant.wrote
          _ c.in_ok-next.ensures.ok;
      going = c.in_ok-next.ensures.failed;
    }

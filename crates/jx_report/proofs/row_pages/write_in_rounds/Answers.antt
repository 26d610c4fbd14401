use Rattle.std.proofs.Common.{arith, rules}
use Rattle.jx_ends.specs.Ends.{AppendsBeginning}
use Rattle.jx_report.specs.inside.Pages.{lines_from}
use Rattle.jx_report.proofs.PageSteps.{fails_later, nothing_written, written_on}
use Rattle.jx_report.proofs.row_pages.write_in_rounds.Goals as goal

pub loop-init : goal.loop-init
loop-init g c = record {
  wrote = nothing_written c.args.rows.now (g.W.Sink.contents c.args.writer.now) 0 (omega arith);
  going = c.requires.unfailed;
}

pub returns-in_err-next-clause-err : goal.returns-in_err-next-clause-err
returns-in_err-next-clause-err g c =
    let contents = g.W.Sink.contents in
    let l = c.loop in
    let beginning : AppendsBeginning (contents c.args.writer.now) (contents c.write_pages.new.writer) (lines_from c.args.rows.now 0) =
    fails_later c.args.rows.now (contents c.args.writer.now) (contents l.writer) (contents c.write_pages.new.writer) 0 l.next l.invariant.wrote c.in_err-next.ensures.err in
    search (rules, beginning)

pub loop-preserved : goal.loop-preserved
loop-preserved g c =
    let contents = g.W.Sink.contents in
    let l = c.loop in
    record {
      wrote =
          written_on c.args.rows.now (contents c.args.writer.now) (contents l.writer) (contents c.write_pages.new.writer) 0 l.next l.invariant.wrote
          _ c.in_ok-next.ensures.ok;
      going = c.in_ok-next.ensures.failed;
    }

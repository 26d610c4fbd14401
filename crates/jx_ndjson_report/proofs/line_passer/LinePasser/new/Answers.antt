use Rattle.jx_ndjson_report.proofs.Passes.{passed_none}
use Rattle.jx_ndjson_report.proofs.line_passer.LinePasser.new.Goals as goal

pub returns-clause-taken : goal.returns-clause-taken
returns-clause-taken c =
    passed_none c.args.task.now _ c.new.ensures.told c.new.ensures.start c.new.ensures.good c.new.ensures.bad c.new.ensures.ready c.new-2.ensures.items c.new-3.ensures.items

use Rattle.jx_explain.proofs.Standings.{reached_none}
use Rattle.jx_explain.proofs.reached.Reached.new.Goals as goal

pub returns-clause-reads : goal.returns-clause-reads
returns-clause-reads c = reached_none c.args.depth c.args.from c.new.result c.new.ensures.depth c.new.ensures.reads

use Rattle.jx_file_build.proofs.Feedings.{is_none}
use Rattle.jx_file_build.proofs.indexer.is_next.Goals as goal

pub returns-clause-empty : goal.returns-clause-empty
returns-clause-empty c = λ is. is_none c.args.part.now c.is_empty.result c.is_empty.ensures c.if-not-is_empty.false

use Rattle.jx_file_query.proofs.Pieces.{entry_some}
use Rattle.jx_file_query.proofs.chunks.kept_of.Goals as goal

pub returns-clause-kept : goal.returns-clause-kept
returns-clause-kept c = entry_some c.args.index.now c.args.at c.args.span c.requires.here c.entry_at.result c.entry_at.ensures

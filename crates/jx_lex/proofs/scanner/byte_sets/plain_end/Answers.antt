use Rattle.jx_lex.proofs.Running.{plain_stretch}
use Rattle.jx_lex.proofs.scanner.byte_sets.plain_end.Goals as goal

pub returns-clause-kept : goal.returns-clause-kept
returns-clause-kept c = plain_stretch c.args.text.now c.args.from c.args.to c.members_end.result c.members_end.ensures

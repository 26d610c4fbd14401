use Rattle.jx_lex.proofs.Running.{blank_stretch}
use Rattle.jx_lex.proofs.scanner.byte_sets.blank_end.Goals as goal

pub returns-clause-kept : goal.returns-clause-kept
returns-clause-kept c = blank_stretch c.args.text.now c.args.from c.args.to c.members_end.result c.members_end.ensures

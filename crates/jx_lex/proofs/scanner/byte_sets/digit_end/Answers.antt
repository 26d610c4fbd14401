use Rattle.jx_lex.proofs.Running.{digit_stretch}
use Rattle.jx_lex.proofs.scanner.byte_sets.digit_end.Goals as goal

pub returns-clause-int : goal.returns-clause-int
returns-clause-int c = (digit_stretch c.args.text.now c.args.from c.args.to c.members_end.result c.members_end.ensures).0

pub returns-clause-frac : goal.returns-clause-frac
returns-clause-frac c = (digit_stretch c.args.text.now c.args.from c.args.to c.members_end.result c.members_end.ensures).1

pub returns-clause-exp : goal.returns-clause-exp
returns-clause-exp c = (digit_stretch c.args.text.now c.args.from c.args.to c.members_end.result c.members_end.ensures).2

pub returns-clause-string : goal.returns-clause-string
returns-clause-string c = (digit_stretch c.args.text.now c.args.from c.args.to c.members_end.result c.members_end.ensures).3

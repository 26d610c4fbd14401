use Rattle.jx_lex.proofs.Running.{plain_leads}
use Rattle.jx_lex.proofs.scanner.string_chars.ascii_end.Goals as goal

pub returns-clause-led : goal.returns-clause-led
returns-clause-led c = plain_leads c.args.text.now c.args.from c.plain_end.result c.plain_end.ensures.kept

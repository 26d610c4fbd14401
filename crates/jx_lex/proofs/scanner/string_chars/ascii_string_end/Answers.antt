use Rattle.jx_lex.proofs.Running.{plain_leads, Leads-join}
use Rattle.jx_lex.proofs.scanner.string_chars.ascii_string_end.Goals as goal

pub returns-then-text-end-eq92-clause-led : goal.returns-then-text-end-eq92-clause-led
returns-then-text-end-eq92-clause-led c =
    let first = c.plain_end-end.ensures in
    let rest = c.escaped_end.ensures in
    Leads-join c.args.text.now c.args.from c.plain_end-end.result c.escaped_end.result first.bounds.0 rest.bounds.0 (plain_leads c.args.text.now c.args.from c.plain_end-end.result first.kept) rest.led

pub returns-clause-led : goal.returns-clause-led
returns-clause-led c = plain_leads c.args.text.now c.args.from c.plain_end-end.result c.plain_end-end.ensures.kept

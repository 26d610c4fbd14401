use Rattle.jx_lex.proofs.Running.{Leads-join}
use Rattle.jx_lex.proofs.scanner.string_chars.string_end_ahead.Goals as goal

pub returns-then-text-end-gt127-clause-led : goal.returns-then-text-end-gt127-clause-led
returns-then-text-end-gt127-clause-led c =
    let first = c.ascii_string_end-end.ensures in
    let rest = c.chars_end-last.ensures in
    Leads-join c.args.text.now c.args.from c.ascii_string_end-end.result c.chars_end-last.result.0 first.bounds.0 rest.bounds.0 first.led rest.led

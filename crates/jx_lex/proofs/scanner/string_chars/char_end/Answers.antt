use Rattle.jx_lex.proofs.Running.{Leads-join}
use Rattle.jx_lex.proofs.scanner.string_chars.char_end.Goals as goal

pub returns-clause-led : goal.returns-clause-led
returns-clause-led c =
    let characters = c.characters_end-end.ensures in
    let ascii = c.ascii_end.ensures in
    Leads-join c.args.text.now c.args.from c.characters_end-end.result.0 c.ascii_end.result characters.bounds.0 ascii.bounds.0 characters.led ascii.led

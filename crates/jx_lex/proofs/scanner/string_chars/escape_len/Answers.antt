use Rattle.std.proofs.Common.{sym, ◌∙◌}
use Rattle.jx_lex.proofs.StringChars.{escape_led, unit_led}
use Rattle.jx_lex.proofs.scanner.string_chars.escape_len.Goals as goal

pub returns-in-len2-up-clause-led : goal.returns-in-len2-up-clause-led
returns-in-len2-up-clause-led c = escape_led c.args.bytes.now c.in-len2-up.len_at_least (sym c.is_escape.ensures ∙ c.if-is_escape.true)

pub returns-in-len6-up-clause-led : goal.returns-in-len6-up-clause-led
returns-in-len6-up-clause-led c = unit_led c.args.bytes.now c.in-len6-up.len_at_least (sym c.is_unit.ensures ∙ c.if-is_unit.true)

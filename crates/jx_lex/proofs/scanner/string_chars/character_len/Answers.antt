use Rattle.std.proofs.Common.{sym, ◌∙◌}
use Rattle.jx_lex.proofs.StringChars.{two_led, three_led, four_led}
use Rattle.jx_lex.proofs.scanner.string_chars.character_len.Goals as goal

pub returns-in-len2-up-clause-led : goal.returns-in-len2-up-clause-led
returns-in-len2-up-clause-led c = two_led c.args.bytes.now c.in-len2-up.len_at_least (sym c.is_two.ensures ∙ c.if-is_two.true)

pub returns-in-len3-up-clause-led : goal.returns-in-len3-up-clause-led
returns-in-len3-up-clause-led c = three_led c.args.bytes.now c.in-len3-up.len_at_least (sym c.is_three.ensures ∙ c.if-is_three.true)

pub returns-in-len4-up-clause-led : goal.returns-in-len4-up-clause-led
returns-in-len4-up-clause-led c = four_led c.args.bytes.now c.in-len4-up.len_at_least (sym c.is_four.ensures ∙ c.if-is_four.true)

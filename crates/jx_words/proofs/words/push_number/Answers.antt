use Rattle.std.proofs.Common.{◌++◌, ap, sym, ◌∙◌}
use Rattle.std.proofs.lemmas.Fmt.{decimal_digit}
use Rattle.jx_words.proofs.words.push_number.Goals as goal

-- a number below ten is one digit
pub returns-then-number-lt10-clause-words : goal.returns-then-number-lt10-clause-words
returns-then-number-lt10-clause-words c = c.push_byte.ensures.words ∙ ap (λ d. c.args.out.now.items ++ d) (sym (decimal_digit c.args.number c.if-number-lt10.true))

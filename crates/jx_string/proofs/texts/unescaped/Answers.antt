use Rattle.std.proofs.Common.{arith}
use Rattle.jx_string.proofs.Strings.{string_long}
use Rattle.jx_string.proofs.texts.unescaped.Goals as goal

pub returns-then-string-lt2-clause-string : goal.returns-then-string-lt2-clause-string
returns-then-string-lt2-clause-string c = λ units is e. absurd (omega (arith, string_long is, c.if-string-lt2.true))

use Rattle.jx_lex.proofs.Keeping.{in_two}
use Rattle.jx_lex.proofs.LexJoin.{lex-append}
use Rattle.jx_lex.proofs.laws.lex_of_two_parts.Goals as goal

pub returns : goal.returns
returns c = record { two = λ s at u v. lex-append u v s at; stretch = in_two }

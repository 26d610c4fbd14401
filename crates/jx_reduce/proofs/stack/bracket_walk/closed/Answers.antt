use Rattle.std.proofs.Common.{sym}
use Rattle.jx_reduce.proofs.KnownWords.{word_less}
use Rattle.jx_reduce.proofs.stack.bracket_walk.closed.Goals as goal

pub returns-clause-closed : goal.returns-clause-closed
returns-clause-closed c = λ rest. sym (word_less c.args.inner.count c.args.inner.bits rest c.requires.some)

use Rattle.std.proofs.Common.{arith}
use Rattle.jx_lex.proofs.Whole.{passes-none}
use Rattle.jx_reduce.proofs.stack.whole_tokens.skip.Goals as goal

pub returns-then-at-last-clause-passes : goal.returns-then-at-last-clause-passes
returns-then-at-last-clause-passes c = let b = c.requires.bounds in passes-none c.args.text.now c.args.at.now (omega (arith, b))

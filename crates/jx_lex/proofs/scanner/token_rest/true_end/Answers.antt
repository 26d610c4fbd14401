use Rattle.std.proofs.Common.{arith}
use Rattle.jx_lex.proofs.Literals.{true_shuts}
use Rattle.jx_lex.proofs.scanner.token_rest.true_end.Goals as goal

pub returns-then-text-from-eq101-clause-shut : goal.returns-then-text-from-eq101-clause-shut
returns-then-text-from-eq101-clause-shut c =
    λ more. true_shuts c.args.text.now c.args.from (let b = c.requires in omega (arith, b)) c.if-text-from-eq114.true c.if-text-from-eq117.true c.if-text-from-eq101.true

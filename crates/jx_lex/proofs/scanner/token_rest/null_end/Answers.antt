use Rattle.std.proofs.Common.{arith}
use Rattle.jx_lex.proofs.Literals.{null_shuts}
use Rattle.jx_lex.proofs.scanner.token_rest.null_end.Goals as goal

pub returns-then-text-from-eq108-2-clause-shut : goal.returns-then-text-from-eq108-2-clause-shut
returns-then-text-from-eq108-2-clause-shut c =
    λ more. null_shuts c.args.text.now c.args.from (let b = c.requires in omega (arith, b)) c.if-text-from-eq117.true c.if-text-from-eq108.true c.if-text-from-eq108-2.true

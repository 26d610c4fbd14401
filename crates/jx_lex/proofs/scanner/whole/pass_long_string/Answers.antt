use Rattle.std.proofs.Common.{◌+◌, arith}
use Rattle.jx_lex.proofs.Running.{Leads-join, plain_leads}
use Rattle.jx_lex.proofs.Whole.{passes-string}
use Rattle.jx_lex.proofs.scanner.whole.pass_long_string.Goals as goal

pub returns-then-text-end-eq34-clause-passes : goal.returns-then-text-end-eq34-clause-passes
returns-then-text-end-eq34-clause-passes c = λ more.
    let xs = c.args.text.now in
    let e = c.chars_end-end.result.0 in
    let b = c.requires.bounds in
    let k = c.chars_end-end.ensures.bounds in
    let fits = c.if-end-to.true in
    passes-string xs c.args.from e (omega (arith, b, k)) (omega (arith, b, fits)) c.requires.quote c.if-text-end-eq34.true
    (Leads-join xs (c.args.from + 1) c.args.first e b.0 k.0 (plain_leads xs (c.args.from + 1) c.args.first c.requires.kept) c.chars_end-end.ensures.led)

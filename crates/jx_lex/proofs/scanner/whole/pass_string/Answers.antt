use Rattle.std.proofs.Common.{◌+◌, arith}
use Rattle.jx_lex.proofs.Running.{Leads-join, plain_leads}
use Rattle.jx_lex.proofs.Whole.{passes-string}
use Rattle.jx_lex.proofs.scanner.whole.pass_string.Goals as goal

pub returns-then-text-first-eq34-clause-passes : goal.returns-then-text-first-eq34-clause-passes
returns-then-text-first-eq34-clause-passes c = λ more.
    let xs = c.args.text.now in
    let e = c.plain_end-first.result in
    let b = c.requires.bounds in
    let k = c.plain_end-first.ensures.bounds in
    let fits = c.if-first-to.true in
    passes-string xs c.args.from e k.0 (omega (arith, b, fits)) c.requires.quote c.if-text-first-eq34.true (plain_leads xs (c.args.from + 1) e c.plain_end-first.ensures.kept)

pub returns-then-text-end-eq34-clause-passes : goal.returns-then-text-end-eq34-clause-passes
returns-then-text-end-eq34-clause-passes c = λ more.
    let xs = c.args.text.now in
    let first = c.plain_end-first.result in
    let e = c.known_end-end.result in
    let b = c.requires.bounds in
    let k = c.plain_end-first.ensures.bounds in
    let n = c.known_end-end.ensures.bounds in
    let fits = c.if-end-to.true in
    passes-string xs c.args.from e (omega (arith, k, n)) (omega (arith, b, fits)) c.requires.quote c.if-text-end-eq34.true
    (Leads-join xs (c.args.from + 1) first e k.0 n.0 (plain_leads xs (c.args.from + 1) first c.plain_end-first.ensures.kept) c.known_end-end.ensures.led)

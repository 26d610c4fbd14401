use Rattle.std.proofs.Common.{arith}
use Rattle.jx_lex.proofs.Whole.{passes-number}
use Rattle.jx_lex.proofs.scanner.whole.pass_number.Goals as goal

pub returns-then-number_may_end-clause-passes : goal.returns-then-number_may_end-clause-passes
returns-then-number_may_end-clause-passes c = λ more.
    let b = c.requires in
    let k = c.number_rest-end.ensures.bounds in
    passes-number c.args.text.now c.args.from c.number_rest-end.result c.in-Some.begun c.number_rest-end.new.state k.0 (omega (arith, b, k)) (omega (arith, b)) c.in-Some.ensures
    c.number_rest-end.ensures.led (c.number_may_end.ensures c.if-number_may_end.true)

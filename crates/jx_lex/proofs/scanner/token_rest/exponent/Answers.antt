use Rattle.std.proofs.Common.{arith}
use Rattle.jx_lex.proofs.Going.{leads-then}
use Rattle.jx_lex.proofs.scanner.token_rest.exponent.Goals as goal

pub returns-clause-led : goal.returns-clause-led
returns-clause-led c =
    let xs = c.args.text.now in
    let letter = c.letter-behind_letter in
    let sign = c.sign-behind_sign in
    let digit = c.exponent_digit-behind_digit in
    let end = c.more_digits in
    let s = c.args.state.now in
    let t = letter.new.state in
    let u = sign.new.state in
    let v = digit.new.state in
    let a = letter.ensures.bounds.0 in
    let b = sign.ensures.bounds.0 in
    let d = digit.ensures.bounds.0 in
    let e = end.ensures.bounds.0 in
    leads-then xs c.args.from sign.result end.result s u v (omega (arith, a, b)) (omega (arith, d, e))
    (leads-then xs c.args.from letter.result sign.result s t u a b letter.ensures.led sign.ensures.led)
    (leads-then xs sign.result digit.result end.result u v v d e digit.ensures.led end.ensures.led)

use Rattle.std.proofs.Common.{◌≡◌, ℕ, arith, subst}
use Rattle.std.specs.Prelude.{slice_range}
use Rattle.jx_lex.specs.Uneventful.{Leads}
use Rattle.jx_lex.proofs.Going.{leads-none, leads-then}
use Rattle.jx_lex.proofs.scanner.token_rest.number_rest.Goals as goal

pub returns-then-is_delimiter-clause-led : goal.returns-then-is_delimiter-clause-led
returns-then-is_delimiter-clause-led c = leads-none c.args.text.now c.args.from c.args.state.now

pub returns-then-pointed-integer-clause-led : goal.returns-then-pointed-integer-clause-led
returns-then-pointed-integer-clause-led c =
    let xs = c.args.text.now in
    let first = c.first_digit-begun in
    let integer = c.more_digits-integer in
    let point = c.point-pointed in
    let last = c.exponent in
    let s = c.args.state.now in
    let t = first.new.state in
    let u = point.new.state in
    let v = last.new.state in
    let a = first.ensures.bounds.0 in
    let b = integer.ensures.bounds.0 in
    let f = last.ensures.bounds.0 in
    let same : point.result ≡ integer.result = c.if-pointed-integer.true in
    leads-then xs c.args.from integer.result last.result s t v (omega (arith, a, b)) f
    (leads-then xs c.args.from first.result integer.result s t t a b first.ensures.led integer.ensures.led)
    (leads-then xs integer.result integer.result last.result t u v (omega arith) f (subst (λ (k : ℕ). Leads t (slice_range xs integer.result k) u) same point.ensures.led) last.ensures.led)

pub returns-clause-led : goal.returns-clause-led
returns-clause-led c =
    let xs = c.args.text.now in
    let first = c.first_digit-begun in
    let integer = c.more_digits-integer in
    let point = c.point-pointed in
    let fraction = c.more_digits-fraction in
    let last = c.exponent-2 in
    let s = c.args.state.now in
    let t = first.new.state in
    let u = point.new.state in
    let v = last.new.state in
    let a = first.ensures.bounds.0 in
    let b = integer.ensures.bounds.0 in
    let d = point.ensures.bounds.0 in
    let e = fraction.ensures.bounds.0 in
    let f = last.ensures.bounds.0 in
    leads-then xs c.args.from integer.result last.result s t v (omega (arith, a, b)) (omega (arith, d, e, f))
    (leads-then xs c.args.from first.result integer.result s t t a b first.ensures.led integer.ensures.led)
    (leads-then xs integer.result fraction.result last.result t u v (omega (arith, d, e)) f
    (leads-then xs integer.result point.result fraction.result t u u d e point.ensures.led fraction.ensures.led)
    last.ensures.led)

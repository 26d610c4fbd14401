use Rattle.std.proofs.Common.{arith, subst, sym}
use Rattle.std.specs.Prelude.{slice_range}
use Rattle.jx_lex.proofs.Keeping.{goes-led, goes-then}
use Rattle.jx_lex.proofs.Turns.{leads_inside}
use Rattle.jx_lex.proofs.scanner.number.Goals as goal

pub returns-clause-read : goal.returns-clause-read
returns-clause-read g c =
    let xs = c.args.text.now in
    let from = c.args.from in
    let digits = c.number_rest-end in
    let b = digits.ensures.bounds in
    let fits = c.requires.bounds.1 in
    let on = c.in_ok-behind in
    let s = c.args.state.now in
    let t = digits.new.state in
    let old = g.K.TokenSink.has_seen c.args.sink.now in
    let new = g.K.TokenSink.has_seen c.comma.new.sink in
    goes-then xs from digits.result on.behind s t c.comma.new.state old old new b.0 on.ensures.bounds.0 (omega (arith, b, fits))
    (goes-led old s t from (slice_range xs from digits.result) digits.ensures.led) on.ensures.read

pub comma-requires-clause-turn : goal.comma-requires-clause-turn
comma-requires-clause-turn g c =
    let digits = c.number_rest-end in
    let same = leads_inside c.args.state.now (slice_range c.args.text.now c.args.from digits.result) digits.new.state digits.ensures.led in
    subst (g.K.TokenSink.awaits c.args.sink.now) (sym same) c.requires.turn

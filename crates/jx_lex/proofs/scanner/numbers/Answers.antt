use Rattle.std.proofs.Common.{arith}
use Rattle.jx_lex.proofs.Keeping.{goes-then}
use Rattle.jx_lex.proofs.scanner.numbers.Goals as goal

pub returns-clause-read : goal.returns-clause-read
returns-clause-read g c =
    let on = c.in_ok-end in
    let then = c.in_ok-behind in
    let t = c.number.new.state in
    let old = g.K.TokenSink.has_seen c.args.sink.now in
    let mid = g.K.TokenSink.has_seen c.number.new.sink in
    let new = g.K.TokenSink.has_seen c.pass_on.new.sink in
    let b = c.requires.bounds in
    let k = on.ensures.bounds in
    goes-then c.args.text.now c.args.from on.end then.behind c.args.state.now t t old mid new k.0 then.ensures.bounds.0 (omega (arith, b, k)) on.ensures.read then.ensures.read

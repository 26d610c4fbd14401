use Rattle.std.proofs.Common.{arith}
use Rattle.jx_lex.proofs.Keeping.{goes-none, goes-shut}
use Rattle.jx_lex.proofs.scanner.literal.Goals as goal

pub returns-then-end-from-clause-read : goal.returns-then-end-from-clause-read
returns-then-end-from-clause-read g c = goes-none c.args.text.now c.args.from c.args.state.now (g.K.TokenSink.has_seen c.args.sink.now)

pub returns-clause-read : goal.returns-clause-read
returns-clause-read g c =
    let e = c.literal_end-end in
    let b = e.ensures.bounds in
    let fits = c.requires.bounds.1 in
    goes-shut c.args.text.now c.args.from e.result c.args.state.now (g.K.TokenSink.has_seen c.args.sink.now) (g.K.TokenSink.has_seen c.end.new.self) b.0 (omega (arith, b, fits))
    (e.ensures.shut (let no = c.if-end-from.false in omega (arith, b, no))) (λ marks ends h. c.in_ok-end.ensures.seen marks ends h)

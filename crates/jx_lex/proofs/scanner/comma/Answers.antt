use Rattle.std.proofs.Common.{arith, refl, ◌++◌, ◌∷◌, []}
use Rattle.jx_lex.proofs.Keeping.{goes-none, goes-comma}
use Rattle.jx_lex.proofs.scanner.comma.Goals as goal

pub returns-then-may_end-clause-read : goal.returns-then-may_end-clause-read
returns-then-may_end-clause-read g c =
    let i = c.args.from in
    goes-comma c.args.text.now i c.args.state.now (g.K.TokenSink.has_seen c.args.sink.now) (g.K.TokenSink.has_seen c.begin.new.self) (omega arith) c.if-text-from-eq44.true (c.if-may_end.ensures.comma refl)
    (λ marks ends h. c.in_ok-begin.ensures.seen marks (ends ++ i ∷ []) (c.in_ok-end.ensures.seen marks ends h))

pub returns-clause-read : goal.returns-clause-read
returns-clause-read g c = goes-none c.args.text.now c.args.from c.args.state.now (g.K.TokenSink.has_seen c.args.sink.now)

use Rattle.std.proofs.Common.{◌++◌, ◌∷◌, [], List, ℕ, arith, subst, sym, append-nil}
use Rattle.jx_lex.specs.declared.alphabet.mark.MarkKind.TheVariants.{Colon}
use Rattle.jx_lex.specs.declared.alphabet.state.LexState.TheVariants as state
use Rattle.jx_lex.proofs.Keeping.{goes-none, goes-colon}
use Rattle.jx_lex.proofs.scanner.colon.Goals as goal

pub returns-then-text-from-eq58-clause-read : goal.returns-then-text-from-eq58-clause-read
returns-then-text-from-eq58-clause-read g c =
    let i = c.args.from in
    let new = g.K.TokenSink.has_seen c.begin.new.self in
    goes-colon c.args.text.now i (g.K.TokenSink.has_seen c.args.sink.now) new (omega arith) c.if-text-from-eq58.true
    (λ marks ends h. subst (λ (es : List ℕ). new (marks ++ record { kind = Colon; at = i } ∷ []) es) (sym (append-nil ends)) (c.in_ok-begin.ensures.seen marks ends h))

pub returns-clause-read : goal.returns-clause-read
returns-clause-read g c = goes-none c.args.text.now c.args.from state.Gap (g.K.TokenSink.has_seen c.args.sink.now)

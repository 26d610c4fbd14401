use Rattle.std.proofs.Common.{◌+◌, ◌++◌, ◌∷◌, [], List, arith, subst, sym, append-nil}
use Rattle.std.specs.Prelude.{slice_range}
use Rattle.jx_lex.specs.declared.alphabet.mark.Mark.{Mark}
use Rattle.jx_lex.specs.declared.alphabet.state.LexState.{LexState}
use Rattle.jx_lex.specs.declared.alphabet.state.LexState.TheVariants as state
use Rattle.jx_lex.specs.Lex.{lex}
use Rattle.jx_lex.specs.Seen.{GoesTo}
use Rattle.jx_lex.proofs.Keeping.{goes-closed, goes-led, goes-then}
use Rattle.jx_lex.proofs.scanner.string_rest.Goals as goal

pub returns-then-text-end-eq34-clause-read : goal.returns-then-text-end-eq34-clause-read
returns-then-text-end-eq34-clause-read g c =
    let s = c.string_end_ahead-end in
    let b = s.ensures.bounds in
    let e = s.result in
    let xs = c.args.text.now in
    let old = g.K.TokenSink.has_seen c.args.sink.now in
    let mid = g.K.TokenSink.has_seen c.end.new.self in
    let new = g.K.TokenSink.has_seen c.colon.new.sink in
    let k = c.in_ok-behind.ensures.bounds in
    let fits = c.requires.bounds.1 in
    goes-then xs c.args.from (e + 1) c.in_ok-behind.behind state.Str state.Gap state.Gap old mid new (omega (arith, b)) k.0 (omega (arith, fits, k))
    (goes-closed xs c.args.from e old mid b.0 (omega (arith, fits, k)) c.if-text-end-eq34.true s.ensures.led
    (λ marks ends h. subst (λ (ms : List Mark). mid ms (ends ++ (e + 1) ∷ [])) (sym (append-nil marks)) (c.in_ok-end.ensures.seen marks ends h)))
    c.in_ok-behind.ensures.read

pub returns-clause-read : goal.returns-clause-read
returns-clause-read g c =
    let seen = g.K.TokenSink.has_seen c.args.sink.now in
    let w = slice_range c.args.text.now c.args.from c.string_end_ahead-end.result in
    subst (λ (t : LexState). GoesTo seen seen (lex state.Str c.args.from w) t) (sym c.requires.inside)
    (goes-led seen state.Str state.Str c.args.from w c.string_end_ahead-end.ensures.led)

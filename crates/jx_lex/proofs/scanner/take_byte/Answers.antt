use Rattle.std.proofs.Common.{◌∙◌, Option, sym, ap, subst}
use Rattle.std.specs.Prelude.{IfSome}
use Rattle.jx_lex.specs.declared.alphabet.state.LexState.{LexState}
use Rattle.jx_lex.specs.declared.alphabet.state.Step.{Step}
use Rattle.jx_lex.specs.Seen.{Leaves, Takes}
use Rattle.jx_lex.specs.TokenStates.{in_token}
use Rattle.jx_lex.proofs.Turns.{takes, told}
use Rattle.jx_lex.proofs.scanner.take_byte.Goals as goal

pub take_in-requires-clause-turn : goal.take_in-requires-clause-turn
take_in-requires-clause-turn g c =
    let awaits = g.K.TokenSink.awaits c.args.sink.now in
    subst (λ (m : Step). Takes awaits m.end m.begin) (sym c.cell_at.ensures.moves) (takes awaits c.args.state c.args.byte c.requires.turn)

pub returns-in_default-clause-turn : goal.returns-in_default-clause-turn
returns-in_default-clause-turn g c =
    let old = g.K.TokenSink.awaits c.args.sink.now in
    let new = g.K.TokenSink.awaits c.take_in.new.sink in
    let same = c.cell_at.ensures.moves in
    let left = subst (λ (m : Step). Leaves old new m.begin m.end) same c.in_ok-next-in_default.ensures.turn in
    subst (λ (next : Option LexState). IfSome next (λ s. new (in_token s))) (sym (c.in_ok-next-in_default.ensures.next ∙ ap (λ (m : Step). m.next) same)) (told old new c.args.state c.args.byte c.requires.turn left)

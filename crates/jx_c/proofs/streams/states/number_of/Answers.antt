use Rattle.std.proofs.Common.{ap, ◌∙◌}
use Rattle.std.proofs.lemmas.Option.{get_or_from_slice_get}
use Rattle.jx_lex.specs.Ordinal.{all_states, ordinal}
use Rattle.jx_lex.specs.declared.alphabet.state.LexState.TheVariants.{Gap}
use Rattle.jx_c.specs.Reader.{state_in}
use Rattle.jx_c.proofs.streams.states.number_of.Goals as goal

pub returns : goal.returns
returns c =
    let state = c.args.state in
    ap state_in c.number.ensures.ordinal ∙ get_or_from_slice_get all_states (ordinal state) state Gap (c.state_ordinals.ensures.state state)

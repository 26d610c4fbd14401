use Rattle.std.proofs.Common.{◌∙◌, ap, Some}
use Rattle.std.proofs.lemmas.Option.{slice_get-get_or}
use Rattle.jx_lex.specs.declared.alphabet.state.LexState.TheVariants as state
use Rattle.jx_lex.specs.Ordinal.{all_states, ordinal}
use Rattle.jx_lex.proofs.StateOrder.{ordinal-at, ordinal-low, state-read}
use Rattle.jx_lex.proofs.laws.state_ordinals.Goals as goal

pub returns : goal.returns
returns c =
    record {
      low = ordinal-low;
      state = λ s. slice_get-get_or all_states (ordinal s) state.Gap (ordinal-low s) ∙ ap Some (state-read s);
      ordinal = ordinal-at;
    }

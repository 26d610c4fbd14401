use Rattle.std.proofs.Common.{List, ap, ◌∙◌}
use Rattle.std.specs.Prelude.{slice_index_or}
use Rattle.jx_lex.specs.declared.alphabet.state.LexState.{LexState}
use Rattle.jx_lex.specs.declared.alphabet.state.LexState.TheVariants as state
use Rattle.jx_c.proofs.streams.states.state_at.Goals as goal

pub returns : goal.returns
returns c = c.state_or_gap.ensures ∙ ap (λ (xs : List LexState). slice_index_or xs c.args.number state.Gap) c.all.ensures

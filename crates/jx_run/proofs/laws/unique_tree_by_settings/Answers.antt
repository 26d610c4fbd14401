use Rattle.jx_run.proofs.Fronts.{one_tree_by}
use Rattle.jx_run.proofs.laws.unique_tree_by_settings.Goals as goal

pub returns : goal.returns
returns c = record { one_tree = one_tree_by (record { reads = c.grammar_of_tokens.ensures.reads; tokens = c.grammar_of_tokens.ensures.tokens; stays = c.grammar_of_tokens.ensures.stays; steps = c.grammar_of_tokens.ensures.steps; gaps = c.grammar_of_tokens.ensures.gaps }) }

use Rattle.jx_run.proofs.LawProofs.{tree_law}
use Rattle.jx_run.proofs.laws.unique_tree.Goals as goal

pub returns : goal.returns
returns c = record { one_tree = tree_law (record { reads = c.grammar_of_tokens.ensures.reads; tokens = c.grammar_of_tokens.ensures.tokens; stays = c.grammar_of_tokens.ensures.stays; steps = c.grammar_of_tokens.ensures.steps; gaps = c.grammar_of_tokens.ensures.gaps }) }

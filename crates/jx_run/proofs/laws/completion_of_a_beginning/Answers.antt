use Rattle.jx_run.proofs.LawProofs.{completed_law}
use Rattle.jx_run.proofs.laws.completion_of_a_beginning.Goals as goal

pub returns : goal.returns
returns c = record { completed = completed_law (record { reads = c.grammar_of_tokens.ensures.reads; tokens = c.grammar_of_tokens.ensures.tokens; stays = c.grammar_of_tokens.ensures.stays; steps = c.grammar_of_tokens.ensures.steps; gaps = c.grammar_of_tokens.ensures.gaps }) }

use Rattle.jx_run.proofs.Fronts.{front_stays, front_told}
use Rattle.jx_run.proofs.laws.beginning_of_a_text_by_its_front.Goals as goal

pub returns-clause-told : goal.returns-clause-told
returns-clause-told c = front_told (record { reads = c.grammar_of_tokens.ensures.reads; tokens = c.grammar_of_tokens.ensures.tokens; stays = c.grammar_of_tokens.ensures.stays; steps = c.grammar_of_tokens.ensures.steps; gaps = c.grammar_of_tokens.ensures.gaps })

pub returns-clause-stays : goal.returns-clause-stays
returns-clause-stays c = front_stays

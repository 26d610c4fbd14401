use Rattle.jx_run.proofs.SequenceSteps.{begun, gone_on, reached, ended, marked}
use Rattle.jx_run.proofs.laws.elements_of_two_parts.Goals as goal

pub returns-clause-begun : goal.returns-clause-begun
returns-clause-begun c = begun

pub returns-clause-gone_on : goal.returns-clause-gone_on
returns-clause-gone_on c = gone_on

pub returns-clause-reached : goal.returns-clause-reached
returns-clause-reached c = reached

pub returns-clause-ended : goal.returns-clause-ended
returns-clause-ended c = λ limit. ended limit (record { reads = c.grammar_of_tokens.ensures.reads; tokens = c.grammar_of_tokens.ensures.tokens; stays = c.grammar_of_tokens.ensures.stays; steps = c.grammar_of_tokens.ensures.steps; gaps = c.grammar_of_tokens.ensures.gaps })

pub returns-clause-marked : goal.returns-clause-marked
returns-clause-marked c = marked

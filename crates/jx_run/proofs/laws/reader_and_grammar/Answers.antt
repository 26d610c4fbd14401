use Rattle.jx_run.proofs.LawProofs.{begins_law, sound_law, complete_law, first_fault_law, too_deep_law, verdict_law}
use Rattle.jx_run.proofs.ReaderFeeds.{judged_read}
use Rattle.jx_run.proofs.laws.reader_and_grammar.Goals as goal

pub returns-clause-begins : goal.returns-clause-begins
returns-clause-begins c = begins_law (record { reads = c.grammar_of_tokens.ensures.reads; tokens = c.grammar_of_tokens.ensures.tokens; stays = c.grammar_of_tokens.ensures.stays; steps = c.grammar_of_tokens.ensures.steps; gaps = c.grammar_of_tokens.ensures.gaps })

pub returns-clause-sound : goal.returns-clause-sound
returns-clause-sound c = sound_law (record { reads = c.grammar_of_tokens.ensures.reads; tokens = c.grammar_of_tokens.ensures.tokens; stays = c.grammar_of_tokens.ensures.stays; steps = c.grammar_of_tokens.ensures.steps; gaps = c.grammar_of_tokens.ensures.gaps })

pub returns-clause-complete : goal.returns-clause-complete
returns-clause-complete c = complete_law (record { reads = c.grammar_of_tokens.ensures.reads; tokens = c.grammar_of_tokens.ensures.tokens; stays = c.grammar_of_tokens.ensures.stays; steps = c.grammar_of_tokens.ensures.steps; gaps = c.grammar_of_tokens.ensures.gaps })

pub returns-clause-first_fault : goal.returns-clause-first_fault
returns-clause-first_fault c = first_fault_law (record { reads = c.grammar_of_tokens.ensures.reads; tokens = c.grammar_of_tokens.ensures.tokens; stays = c.grammar_of_tokens.ensures.stays; steps = c.grammar_of_tokens.ensures.steps; gaps = c.grammar_of_tokens.ensures.gaps })

pub returns-clause-too_deep : goal.returns-clause-too_deep
returns-clause-too_deep c = too_deep_law (record { reads = c.grammar_of_tokens.ensures.reads; tokens = c.grammar_of_tokens.ensures.tokens; stays = c.grammar_of_tokens.ensures.stays; steps = c.grammar_of_tokens.ensures.steps; gaps = c.grammar_of_tokens.ensures.gaps })

pub returns-clause-verdict : goal.returns-clause-verdict
returns-clause-verdict c = verdict_law (record { reads = c.grammar_of_tokens.ensures.reads; tokens = c.grammar_of_tokens.ensures.tokens; stays = c.grammar_of_tokens.ensures.stays; steps = c.grammar_of_tokens.ensures.steps; gaps = c.grammar_of_tokens.ensures.gaps })

pub returns-clause-by_settings : goal.returns-clause-by_settings
returns-clause-by_settings c = judged_read (record { reads = c.grammar_of_tokens.ensures.reads; tokens = c.grammar_of_tokens.ensures.tokens; stays = c.grammar_of_tokens.ensures.stays; steps = c.grammar_of_tokens.ensures.steps; gaps = c.grammar_of_tokens.ensures.gaps })

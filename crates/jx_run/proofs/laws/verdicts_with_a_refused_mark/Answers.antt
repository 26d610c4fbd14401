use Rattle.jx_run.proofs.Fronts.{begins_plain, judged_refused, plain, refused_begins, refused_judged, refused_texts}
use Rattle.jx_run.proofs.laws.verdicts_with_a_refused_mark.Goals as goal

pub returns-clause-texts : goal.returns-clause-texts
returns-clause-texts c s at bytes tree is = (refused_texts s is at bytes tree, plain s at bytes tree)

pub returns-clause-begins : goal.returns-clause-begins
returns-clause-begins c s bytes is = (refused_begins s is bytes, begins_plain s bytes)

pub returns-clause-verdict : goal.returns-clause-verdict
returns-clause-verdict c s at bytes v is = (judged_refused (record { reads = c.grammar_of_tokens.ensures.reads; tokens = c.grammar_of_tokens.ensures.tokens; stays = c.grammar_of_tokens.ensures.stays; steps = c.grammar_of_tokens.ensures.steps; gaps = c.grammar_of_tokens.ensures.gaps }) s at bytes is v, refused_judged s at bytes is v)

use Rattle.jx_lex.proofs.Inside.{token_reads}
use Rattle.jx_lex.proofs.Recognized.{gap_step, token_of, token_step}
use Rattle.jx_lex.proofs.Stays.{go_stays}
use Rattle.jx_lex.proofs.laws.grammar_of_tokens.Goals as goal

pub returns : goal.returns
returns c = record { reads = token_reads; tokens = token_of; stays = λ s next b. go_stays s b next; steps = token_step; gaps = gap_step }

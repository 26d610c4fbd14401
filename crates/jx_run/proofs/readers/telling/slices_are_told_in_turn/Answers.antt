use Rattle.jx_run.proofs.InTurn.{faults_stay, in_turn, no_tokens_yet}
use Rattle.jx_run.proofs.readers.telling.slices_are_told_in_turn.Goals as goal

pub returns-clause-marks : goal.returns-clause-marks
returns-clause-marks c = λ mark limit bytes slice goes. (in_turn c.lex_of_two_parts.ensures.two mark limit bytes slice goes).marks

pub returns-clause-ends : goal.returns-clause-ends
returns-clause-ends c = λ mark limit bytes slice goes. (in_turn c.lex_of_two_parts.ensures.two mark limit bytes slice goes).ends

pub returns-clause-faults : goal.returns-clause-faults
returns-clause-faults c = faults_stay

pub returns-clause-none : goal.returns-clause-none
returns-clause-none c = no_tokens_yet

use Rattle.jx_wire.proofs.FrameSteps.{read_on-append, bodies-append}
use Rattle.jx_wire.proofs.laws.frames_of_two_parts.Goals as goal

pub returns-clause-read : goal.returns-clause-read
returns-clause-read c = λ r xs ys. read_on-append r xs ys

pub returns-clause-ended : goal.returns-clause-ended
returns-clause-ended c = λ r xs ys. bodies-append r xs ys

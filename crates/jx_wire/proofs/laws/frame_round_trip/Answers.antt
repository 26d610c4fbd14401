use Rattle.jx_wire.proofs.FramesRead.{frames_read}
use Rattle.jx_wire.proofs.laws.frame_round_trip.Goals as goal

pub returns-clause-read : goal.returns-clause-read
returns-clause-read c = λ bs h. (frames_read bs h).reads

pub returns-clause-ended : goal.returns-clause-ended
returns-clause-ended c = λ bs h. (frames_read bs h).ends

use Rattle.std.proofs.Common.{[], ◌∷◌}
use Rattle.jx_reduce.proofs.KnownMoves.{has_read-then}
use Rattle.jx_reduce.proofs.stack.known_stack.KnownStack.push.Goals as goal

pub returns-clause-marks : goal.returns-clause-marks
returns-clause-marks c = λ before h. has_read-then c.args.self.now c.step.new.self before (c.args.mark ∷ []) c.step.ensures.depth c.in_ok-step.ensures.reads h

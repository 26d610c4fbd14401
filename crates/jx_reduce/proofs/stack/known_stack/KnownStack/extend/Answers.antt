use Rattle.jx_reduce.proofs.KnownMoves.{has_read-then}
use Rattle.jx_reduce.proofs.stack.known_stack.KnownStack.extend.Goals as goal

pub returns-clause-marks : goal.returns-clause-marks
returns-clause-marks c = λ before h. has_read-then c.args.self.now c.step_all.new.self before c.args.marks.now c.step_all.ensures.depth c.in_ok-step_all.ensures.reads h

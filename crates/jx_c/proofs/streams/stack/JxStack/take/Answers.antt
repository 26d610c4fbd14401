use Rattle.std.proofs.Common.{[], ◌∷◌}
use Rattle.jx_c.specs.Stack.{known_of}
use Rattle.jx_c.proofs.Moves.{has_read-then}
use Rattle.jx_c.proofs.streams.stack.JxStack.take.Goals as goal

pub returns-clause-marks : goal.returns-clause-marks
returns-clause-marks c = λ before h. has_read-then (known_of c.args.self.now) (known_of c.step.new.self) before (c.args.mark ∷ []) c.step.ensures.depth c.step.ensures.reads h

use Rattle.jx_c.specs.Stack.{known_of}
use Rattle.jx_c.proofs.streams.stack.JxStackTokenSink.is_done.Goals as goal

pub returns : goal.returns
returns c = λ done. c.readings_after_a_fault.ensures.done (known_of c.args.self.now) (c.is_faulty.ensures.0 done)

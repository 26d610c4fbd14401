use Rattle.std.proofs.Common.{arith, sym}
use Rattle.jx_c.proofs.Words.{length-holders}
use Rattle.jx_c.proofs.streams.stack.JxStack.open_count.Goals as goal

pub returns-clause-long : goal.returns-clause-long
returns-clause-long c = sym (length-holders c.args.self.now.count c.args.self.now.bits c.args.self.now.words (omega arith) c.words.ensures.all)

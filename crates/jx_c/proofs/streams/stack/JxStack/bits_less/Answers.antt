use Rattle.std.proofs.Common.{arith}
use Rattle.jx_c.proofs.Words.{less_within, less_to_none, less_over}
use Rattle.jx_c.proofs.streams.stack.JxStack.bits_less.Goals as goal

pub returns-then-self-ne1 : goal.returns-then-self-ne1
returns-then-self-ne1 c = less_within c.args.self.now.count c.args.self.now.bits c.args.self.now.words c.requires c.if-self-ne1.true

pub returns-then-self-eq1 : goal.returns-then-self-eq1
returns-then-self-eq1 c = less_to_none c.args.self.now.count c.args.self.now.bits 0 c.args.self.now.words c.if-self-eq1.true

pub returns-else-self-eq1 : goal.returns-else-self-eq1
returns-else-self-eq1 c =
    rw c.words-words.ensures.same (less_over c.args.self.now.count c.args.self.now.bits c.args.self.now.words c.if-self-eq1.false (omega arith) (omega arith) c.words-words.ensures.all)

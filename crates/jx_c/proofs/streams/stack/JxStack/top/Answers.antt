use Rattle.std.proofs.Common.{sym, ◌∙◌, ap, arith}
use Rattle.jx_reduce.specs.Read.{top}
use Rattle.jx_reduce.specs.Bits.{holder_of}
use Rattle.jx_c.proofs.Words.{nothing, inner_top, holder_of-object}
use Rattle.jx_c.proofs.streams.stack.JxStack.top.Goals as goal

pub returns-then-self-eq0 : goal.returns-then-self-eq0
returns-then-self-eq0 c = ap top (sym (nothing c.args.self.now.count c.args.self.now.bits c.args.self.now.words c.if-self-eq0.true))

pub returns-then-self-eq0-2 : goal.returns-then-self-eq0-2
returns-then-self-eq0-2 c = ap holder_of (sym c.if-self-eq0-2.true) ∙ sym (inner_top c.args.self.now.count c.args.self.now.bits c.args.self.now.words (omega arith))

pub returns-else-self-eq0-2 : goal.returns-else-self-eq0-2
returns-else-self-eq0-2 c = sym (holder_of-object _ c.if-self-eq0-2.false) ∙ sym (inner_top c.args.self.now.count c.args.self.now.bits c.args.self.now.words (omega arith))

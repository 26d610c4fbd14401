use Rattle.std.proofs.Common.{◌∙◌, ap, arith, sym}
use Rattle.jx_reduce.specs.Read.{without_top}
use Rattle.jx_c.proofs.Words.{nothing}
use Rattle.jx_c.proofs.streams.stack.JxStack.close.Goals as goal

pub returns-then-self-gt0-clause-holders : goal.returns-then-self-gt0-clause-holders
returns-then-self-gt0-clause-holders c = c.bits_less-self.ensures

pub returns-else-self-gt0-clause-holders : goal.returns-else-self-gt0-clause-holders
returns-else-self-gt0-clause-holders c =
    let none = nothing c.args.self.now.count c.args.self.now.bits c.args.self.now.words (omega arith) in
    none ∙ ap without_top (sym none)

use Rattle.std.proofs.Common.{◌∙◌, ap, ◌∷◌}
use Rattle.jx_reduce.specs.declared.table.holder.Holder.{Holder}
use Rattle.jx_c.specs.Stack.{holders_of}
use Rattle.jx_c.proofs.streams.stack.JxStack.open.Goals as goal

pub returns-clause-holders : goal.returns-clause-holders
returns-clause-holders c =
    rw (c.keep_full_word.ensures.count, c.keep_full_word.ensures.bits)
    (c.keep_full_word.ensures.more c.bit_of.result c.bit_of.ensures.within ∙ ap (λ (h : Holder). h ∷ holders_of c.args.self.now) c.bit_of.ensures.holder)

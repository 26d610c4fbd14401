use Rattle.std.proofs.Common.{sym, ◌∙◌, ap, arith}
use Rattle.jx_reduce.specs.Read.{top}
use Rattle.jx_reduce.specs.Bits.{holder_of}
use Rattle.jx_reduce.proofs.KnownWords.{nothing, top_of_word, holder_of-object}
use Rattle.jx_reduce.proofs.stack.open_containers.OpenContainersContainers.top.Goals as goal

pub returns-then-self-eq0 : goal.returns-then-self-eq0
returns-then-self-eq0 c = ap top (sym (nothing _ c.self.inside.bits _ c.if-self-eq0.true (c.self.invariant.none c.if-self-eq0.true)) ∙ c.self.view_is)

pub returns-then-self-eq0-2 : goal.returns-then-self-eq0-2
returns-then-self-eq0-2 c =
    ap holder_of (sym c.if-self-eq0-2.true) ∙ sym (top_of_word c.self.inside.count c.self.inside.bits _ (omega arith)) ∙ ap top c.self.view_is

pub returns-else-self-eq0-2 : goal.returns-else-self-eq0-2
returns-else-self-eq0-2 c =
    sym (holder_of-object _ c.if-self-eq0-2.false) ∙ sym (top_of_word c.self.inside.count c.self.inside.bits _ (omega arith)) ∙ ap top c.self.view_is

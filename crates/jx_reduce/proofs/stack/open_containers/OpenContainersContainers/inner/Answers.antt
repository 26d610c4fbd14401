use Rattle.std.proofs.Common.{◌∙◌, ◌++◌, List, ap, sym}
use Rattle.jx_reduce.specs.Bits.{in_word}
use Rattle.jx_reduce.specs.Containers.{outer}
use Rattle.jx_reduce.specs.declared.table.holder.Holder.{Holder}
use Rattle.jx_reduce.proofs.KnownAround.{words_around}
use Rattle.jx_reduce.proofs.stack.open_containers.OpenContainersContainers.inner.Goals as goal

pub returns-clause-list : goal.returns-clause-list
returns-clause-list c =
    let i = c.self.inside in
    sym c.self.view_is
    ∙ ap (λ (r : List Holder). in_word i.count i.bits ++ r) (sym (words_around i.count i.bits i.words.items c.self.invariant.count c.self.invariant.none) ∙ ap outer c.self.view_is)

use Rattle.std.proofs.Common.{arith}
use Rattle.jx_c.specs.Containers.{inner_count}
use Rattle.jx_c.proofs.Words.{inner_is, masked, masked-lt}
use Rattle.jx_c.proofs.streams.stack.JxStackContainers.inner.Goals as goal

pub returns-clause-inner : goal.returns-clause-inner
returns-clause-inner c =
    let k = c.inner_count-count.result in
    record { some = omega arith; count = omega arith; bits = masked-lt k c.args.self.now.bits (omega arith) (omega arith) }

pub returns-clause-list : goal.returns-clause-list
returns-clause-list c =
    let s = c.args.self.now in
    rw c.inner_count-count.ensures.value
    (inner_is s.count s.bits _ s.words c.inner_count-count.ensures.few c.words.ensures.all (masked (inner_count s.count) s.bits (omega arith) (omega arith)))

use Rattle.jx_c.proofs.Words.{inner_put}
use Rattle.jx_c.proofs.streams.stack.JxStackContainers.put_inner.Goals as goal

pub returns-clause-put : goal.returns-clause-put
returns-clause-put c = λ _.
    let s = c.args.self.now in
    rw c.inner_count.ensures.value (inner_put s.count s.bits c.args.inner.count c.args.inner.bits s.words c.inner_count.ensures.few c.words.ensures.all c.requires.some c.requires.count)

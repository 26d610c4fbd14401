use Rattle.std.proofs.Common.{arith}
use Rattle.jx_c.proofs.Words.{more_within, more_over}
use Rattle.jx_c.proofs.streams.stack.JxStack.keep_full_word.Goals as goal

pub returns-then-inner_count-eq64-clause-more : goal.returns-then-inner_count-eq64-clause-more
returns-then-inner_count-eq64-clause-more c = λ x low.
    let s = c.args.self.now in
    more_over s.count s.bits x s.words (omega arith) c.inner_count.ensures.few c.words.ensures.all low

pub returns-else-inner_count-eq64-clause-more : goal.returns-else-inner_count-eq64-clause-more
returns-else-inner_count-eq64-clause-more c = λ x low.
    let s = c.args.self.now in
    more_within s.count s.bits x s.words (omega arith) low

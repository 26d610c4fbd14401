use Rattle.jx_answer.proofs.Placed.{zip_more}
use Rattle.jx_answer.proofs.bytes.lookups.Lookups.in_order.Goals as goal

pub loop-at-preserved : goal.loop-at-preserved
loop-at-preserved c =
    zip_more c.args.self.now.index.now c.args.self.now.pointers.now c.loop-at.at c.loop-at.answers.items c.push.new.self.items c.answer_of.result
    c.loop-at.invariant c.answer_of.ensures c.in_ok-push.ensures.items

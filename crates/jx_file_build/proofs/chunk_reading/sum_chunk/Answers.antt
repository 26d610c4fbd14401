use Rattle.std.proofs.Common.{[]}
use Rattle.std.proofs.lemmas.Result.{IfOk-weaker}
use Rattle.jx_file_build.proofs.Tallies.{nothing_awaited}
use Rattle.jx_file_build.proofs.chunk_reading.sum_chunk.Goals as goal

pub feed_into-requires-clause-turn : goal.feed_into-requires-clause-turn
feed_into-requires-clause-turn c = λ before is. nothing_awaited before

pub returns-clause-reads : goal.returns-clause-reads
returns-clause-reads c =
    let e = c.feed_into.ensures in
    IfOk-weaker c.feed_into.result _ _ (λ sum reads. record { settings = e.settings; start = e.start; reads = reads }) e.reads

pub returns-clause-sums : goal.returns-clause-sums
returns-clause-sums c = IfOk-weaker c.feed_into.result _ _ (λ told grows going before is. grows going before is [] [] c.new.ensures) c.feed_into.ensures.told

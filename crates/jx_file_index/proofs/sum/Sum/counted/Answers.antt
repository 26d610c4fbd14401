use Rattle.std.proofs.Common.{◌∙◌}
use Rattle.jx_file_index.proofs.SumCounts.{summed_by}
use Rattle.jx_file_index.proofs.sum.Sum.counted.Goals as goal

pub returns : goal.returns
returns c = λ marks ends h.
    let is = c.in_ok-behind.ensures in
    c.in_ok-sum.ensures.1 ∙ summed_by c.args.self c.in_ok-behind.behind marks ends c.args.counts.now h is.closed is.opened is.commas

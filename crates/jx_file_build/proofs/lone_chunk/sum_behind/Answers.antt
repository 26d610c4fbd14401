use Rattle.std.proofs.Common.{[]}
use Rattle.jx_file_build.proofs.lone_chunk.sum_behind.Goals as goal

pub returns : goal.returns
returns c = c.in_ok-scan.ensures.seen [] [] c.new-sum.ensures

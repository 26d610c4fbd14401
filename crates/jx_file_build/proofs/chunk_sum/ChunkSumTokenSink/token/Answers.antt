use Rattle.jx_file_build.proofs.Tallies.{tells_token}
use Rattle.jx_file_build.proofs.chunk_sum.ChunkSumTokenSink.token.Goals as goal

pub returns-clause-seen : goal.returns-clause-seen
returns-clause-seen c =
    let old = c.args.self.now in
    tells_token old.sum old.begins old.ends c.args._mark c.args._to c.requires.kind

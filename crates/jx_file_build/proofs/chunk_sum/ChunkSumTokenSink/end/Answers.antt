use Rattle.jx_file_build.proofs.Tallies.{tells_end}
use Rattle.jx_file_build.proofs.chunk_sum.ChunkSumTokenSink.end.Goals as goal

pub returns-clause-seen : goal.returns-clause-seen
returns-clause-seen c = λ marks ends t.
    let old = c.args.self.now in
    tells_end marks ends old.sum old.begins old.ends t c.args._at

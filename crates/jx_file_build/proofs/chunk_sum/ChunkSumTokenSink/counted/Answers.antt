use Rattle.std.proofs.Common.{true, refl, arith}
use Rattle.jx_file_build.proofs.Counted.{tells_counted}
use Rattle.jx_file_build.proofs.chunk_sum.ChunkSumTokenSink.counted.Goals as goal

pub returns-clause-seen : goal.returns-clause-seen
returns-clause-seen c = λ marks ends h.
    let old = c.args.self.now in
    tells_counted old.sum c.in-Some.sum old.begins old.ends true c.args.counts.now marks ends h (omega arith) (c.in-Some.ensures marks ends h) (λ some. refl) (λ none. absurd (omega arith))

pub returns-then-values-eq0-clause-seen : goal.returns-then-values-eq0-clause-seen
returns-then-values-eq0-clause-seen c = λ marks ends h.
    let old = c.args.self.now in
    tells_counted old.sum c.in-Some.sum old.begins old.ends old.ends c.args.counts.now marks ends h (omega arith) (c.in-Some.ensures marks ends h) (λ some. absurd (omega arith)) (λ none. refl)

use Rattle.std.proofs.Common.{Option, Some, subst}
use Rattle.std.specs.Prelude.{SomeIff}
use Rattle.jx_file_index.specs.declared.sum.Sum.{Sum}
use Rattle.jx_file_index.specs.Sums.{Fits, noted}
use Rattle.jx_file_build.proofs.Tallies.{tells_mark}
use Rattle.jx_file_build.proofs.chunk_sum.ChunkSumTokenSink.begin.Goals as goal

pub returns-clause-seen : goal.returns-clause-seen
returns-clause-seen c = λ marks ends t.
    let old = c.args.self.now in
    let next : Sum = noted c.args.mark.kind old.sum in
    let is : SomeIff (Some c.in-Some.sum) (Fits next) next = subst (λ (o : Option Sum). SomeIff o (Fits next) next) c.in-Some.is c.step.ensures in
    tells_mark marks ends old.sum old.begins old.ends t c.args.mark c.in-Some.sum is.1

use Rattle.std.proofs.Common.{Option, Some, subst}
use Rattle.std.specs.Prelude.{SomeIff}
use Rattle.jx_file_index.specs.declared.sum.Sum.{Sum}
use Rattle.jx_file_index.specs.Sums.{Fits, joined}
use Rattle.jx_file_build.proofs.Tallies.{tells_joined}
use Rattle.jx_file_build.proofs.chunk_sum.ChunkSum.joined.Goals as goal

pub returns : goal.returns
returns c = λ ms more es others left right.
    let one = c.args.self.now in
    let other = c.args.right.now in
    let next : Sum = joined one.sum other.sum in
    let is : SomeIff (Some c.in-Some.sum) (Fits next) next = subst (λ (o : Option Sum). SomeIff o (Fits next) next) c.in-Some.is c.join.ensures in
    tells_joined ms more es others one.sum other.sum c.in-Some.sum one.begins other.begins one.ends other.ends _ _ left right is.1 c.sum_of_joined_starts.ensures.joined c.either.ensures c.either-2.ensures

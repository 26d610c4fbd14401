use Rattle.std.proofs.Common.{◌∙◌, ◌++◌, List, ℕ, ap}
use Rattle.std.specs.Prelude.{slice_range}
use Rattle.jx_file_build.proofs.Lone.{read_alone}
use Rattle.jx_file_build.proofs.lone_chunk.LoneChunk.behind.Goals as goal

pub returns : goal.returns
returns c =
    let chunk = c.args.chunk.now in
    read_alone chunk c.extend_from_slice.new.self.items c.args.from c.args.run c.args.state c.in_ok-rest.rest c.digest_of.result c.requires.within
    (c.in_ok-extend_from_slice.ensures.items ∙ ap (λ (xs : List ℕ). xs ++ slice_range chunk 0 c.args.from) c.new-head.ensures.items) c.requires.run c.requires.start c.in_ok-rest.ensures
    c.digest_of.ensures

pub invariant_of-result : goal.invariant_of-result
invariant_of-result c = record { depth = c.args.run.depth; bytes = c.args.chunk.now; of = returns c }
